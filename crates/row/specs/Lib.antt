-- What the contracts of this crate say.
pub mod Names
pub mod Bytes
pub mod Kinds
