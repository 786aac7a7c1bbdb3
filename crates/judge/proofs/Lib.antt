-- Laws of this crate.
pub mod Verdicts
pub mod Granted
pub mod Judged
pub mod KeptJudged
pub mod Right
