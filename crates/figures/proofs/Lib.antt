pub mod Outcomes
pub mod Spans
