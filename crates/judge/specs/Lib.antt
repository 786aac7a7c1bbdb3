-- The refusals of a run, an edit and a question about two rows, in their order.
pub mod Verdict
pub mod Run
pub mod Kept
pub mod Edit
pub mod Ask
pub mod Judge
