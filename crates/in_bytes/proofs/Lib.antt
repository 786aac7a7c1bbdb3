-- Laws of numbers and their bytes.
pub mod Numbers
