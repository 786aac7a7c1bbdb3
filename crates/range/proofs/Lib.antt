-- Laws of ranges and of their store. `Spans`, `Laws` and `Kept` are for every crate.
pub mod Spans
pub mod Circle
pub mod Members
pub mod Sums
pub mod Negations
pub mod Made
pub mod Laws
pub mod Kept
