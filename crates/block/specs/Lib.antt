pub mod Places
pub mod Kept
pub mod Choices
pub mod Held
