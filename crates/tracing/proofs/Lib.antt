-- Laws of the lines of a walk, and of the list of a read.
pub mod Steps
pub mod Lists
pub mod Local
