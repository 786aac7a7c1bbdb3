-- Laws of this crate.
pub mod Reach
pub mod WordRules
pub mod ArrayRules
pub mod RowRanges
pub mod Rewrites
pub mod Turns
