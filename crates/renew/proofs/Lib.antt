-- Laws of this crate.
pub mod Renewing
pub mod Turning
pub mod Outcome
