-- Laws of what the program prints.
pub mod Written
pub mod Answered
pub mod Room
pub mod Examples
