-- What the rows of a table mean.
pub mod Meaning
