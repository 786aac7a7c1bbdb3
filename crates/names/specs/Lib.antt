-- What the contracts of this crate say.
pub mod First
pub mod Slots
