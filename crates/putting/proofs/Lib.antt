-- Laws of a row put into bytes.
pub mod Steps
