pub mod Stages
pub mod Joining
pub mod Code
pub mod Fronts
pub mod Moves
pub mod Laws
