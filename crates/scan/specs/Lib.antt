pub mod Scanning
pub mod Scans
