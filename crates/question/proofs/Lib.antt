-- Laws of a question: the ways out, and what is told.
pub mod Answered
pub mod Told
