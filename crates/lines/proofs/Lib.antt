-- Laws of the lines.
pub mod Printed
pub mod Examples
