-- Laws that every layer shares.
pub mod Pick
pub mod Reasons
pub mod Builds
pub mod Counts
pub mod Sets
