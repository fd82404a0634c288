pub mod Laws
pub mod Rows
pub mod Frames
pub mod Cells
pub mod Behind
pub mod Picks
