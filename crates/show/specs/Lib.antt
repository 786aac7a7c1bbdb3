-- What the contracts of this program say.
pub mod Limit
pub mod Shown
