-- What the contracts of this crate say beside document 01's relation and walk, which are those of `term`.
pub mod Value
pub mod Walked
pub mod Ready
