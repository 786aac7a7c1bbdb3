-- What the contracts of this crate say.
pub mod Uses
pub mod Verdict
pub mod Fault
pub mod Refusals
pub mod Accepted
