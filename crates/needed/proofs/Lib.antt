-- Laws of the rows that ranges are made from, and of their ranges.
pub mod Marking
pub mod Keeping
