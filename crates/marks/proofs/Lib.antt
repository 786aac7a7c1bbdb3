-- Laws of marks.
pub mod InWord
pub mod Marking
