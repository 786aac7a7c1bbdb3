-- Laws of the list.
pub mod Short
pub mod Examples
