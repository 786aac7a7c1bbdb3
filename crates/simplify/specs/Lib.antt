-- The public promises: what run and edit answer, and what they leave in each lent buffer, for every input.
pub mod Answer
pub mod Run
pub mod Fresh
pub mod Edit
pub mod Patch
