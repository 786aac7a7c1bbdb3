-- What ranges are made of.
pub mod Pieces
