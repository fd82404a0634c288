pub mod Machine
pub mod Calls
pub mod Laws
pub mod Of
pub mod Words
