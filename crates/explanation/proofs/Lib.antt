-- Laws of the explanation: the answer to a question why.
pub mod Restored
pub mod Judged
pub mod Refused
pub mod Granted
pub mod Explains
pub mod Fits
