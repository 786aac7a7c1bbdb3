-- Laws of names.
pub mod First
pub mod Slots
