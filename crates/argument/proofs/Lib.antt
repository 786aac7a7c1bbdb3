-- Laws of the arguments.
pub mod Words
pub mod Numbers
pub mod Examples
