pub mod Bytes
pub mod Rows
pub mod Frames
pub mod Written
pub mod Layouts
pub mod Cells
pub mod Picks
