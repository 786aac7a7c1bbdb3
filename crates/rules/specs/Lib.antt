-- What the contracts of this crate say beside document 01's rules, which are those of `term`.
pub mod Ready
pub mod Made
pub mod Written
