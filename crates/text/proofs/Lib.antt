-- Laws of text.
pub mod Decimal
pub mod Puts
