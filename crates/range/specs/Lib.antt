-- What the contracts of this crate say.
pub mod Range
pub mod Store
