pub mod Table
pub mod Images
pub mod Ramps
pub mod Makes
