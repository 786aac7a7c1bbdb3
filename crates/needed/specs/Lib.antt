-- What the parts of this crate ask and leave.
pub mod Needed
