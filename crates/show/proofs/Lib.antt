-- Laws of the program's arguments.
pub mod Limits
pub mod Examples
