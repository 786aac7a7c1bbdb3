-- Laws of reasons as text.
pub mod Largest
pub mod Short
pub mod Written
