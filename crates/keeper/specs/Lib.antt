pub mod Taking
pub mod Keeping
pub mod Proper
pub mod Outer
