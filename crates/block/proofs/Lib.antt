pub mod Places
pub mod Parts
pub mod Options
pub mod Cuts
pub mod Records
