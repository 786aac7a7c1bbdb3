-- Laws of this crate.
pub mod Terms
pub mod Values
pub mod Bases
pub mod Relations
pub mod Reach
pub mod Stores
pub mod Walks
