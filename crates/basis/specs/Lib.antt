-- Definitions that every layer shares and that know nothing of tables.
pub mod Reason
pub mod Build
pub mod Count
