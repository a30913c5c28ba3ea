pub mod Outcomes
pub mod Blank
