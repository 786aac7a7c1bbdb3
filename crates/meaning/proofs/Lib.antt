-- The rules keep what rows mean: `Demand2` has the theorems.
pub mod Model
pub mod Value
pub mod Words
pub mod Relations
pub mod Reasons
pub mod Arrays
pub mod RuleGood
pub mod Meanings
pub mod Seen
pub mod Demand2
pub mod Choices
