pub mod Conditions
pub mod Picks
