pub mod Conditions
pub mod Law
pub mod Pairs
pub mod Rows
pub mod WideRows
