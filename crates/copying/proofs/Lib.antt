-- Laws of this crate.
pub mod Copied
