-- What the demands speak of.
pub mod Own
pub mod Compare
pub mod Sources
pub mod Former
