pub mod Blank
pub mod Stepping
pub mod Running
