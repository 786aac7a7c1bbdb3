-- Laws of the door.
pub mod Tells
