-- Laws of pieces and of their union.
pub mod Unions
pub mod Filling
pub mod Each
pub mod Sums
pub mod Negations
