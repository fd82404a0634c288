pub mod Condition
pub mod Terms
pub mod Pairs
pub mod Joined
