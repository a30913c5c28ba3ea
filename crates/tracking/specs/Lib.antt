pub mod Track
pub mod Entry
pub mod Worn
