-- Document 01's rules, as definitions that compute. A table, and a result, is a lookup: a term for each row number.
pub mod Term
pub mod Seen
pub mod Base
pub mod Relation
pub mod Walk
pub mod Reason
pub mod Rule
pub mod Result
pub mod Compared
pub mod Leads
pub mod WellFormed
pub mod Bytes
