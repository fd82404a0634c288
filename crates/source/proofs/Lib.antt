pub mod Tables
pub mod Imaged
pub mod Ramped
