-- Laws of the refusals and of an accepted table.
pub mod Fields
pub mod Any
pub mod Told
pub mod Heads
pub mod Faulty
pub mod Exactly
pub mod Accepts
