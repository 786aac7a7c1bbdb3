-- Laws of rows without a fault.
pub mod Clean
