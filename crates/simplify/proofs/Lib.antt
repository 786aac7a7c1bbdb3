-- Laws of this crate.
pub mod Granted
pub mod FreshRun
pub mod Patches
pub mod Edits
