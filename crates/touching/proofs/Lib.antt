-- Laws of the rows that an edit touches.
pub mod Following
pub mod Marking
