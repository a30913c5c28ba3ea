pub mod Scans
pub mod Blocks
