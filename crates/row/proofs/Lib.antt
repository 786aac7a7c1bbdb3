-- Laws of rows and their bytes.
pub mod Places
pub mod Rows
pub mod Whole
pub mod Steps
pub mod States
pub mod Named
