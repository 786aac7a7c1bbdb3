-- Laws of the faults of one row.
pub mod Fields
pub mod Own
