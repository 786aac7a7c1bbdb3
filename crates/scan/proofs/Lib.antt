-- Laws of the scan.
pub mod Any
pub mod Scan
