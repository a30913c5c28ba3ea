pub mod Transcript
pub mod Demand1
pub mod Claims
pub mod Reached
pub mod Unused
