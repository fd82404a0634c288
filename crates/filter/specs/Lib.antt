pub mod Condition
pub mod Filtering
pub mod Filters
