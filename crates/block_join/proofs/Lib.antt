pub mod Records
pub mod Steps
