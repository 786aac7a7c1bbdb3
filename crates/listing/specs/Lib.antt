-- What the contracts of this crate say.
pub mod List
pub mod Ready
