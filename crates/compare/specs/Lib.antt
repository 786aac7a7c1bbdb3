-- What the contracts of this program say.
pub mod Line
