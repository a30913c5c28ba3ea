pub mod Outcome
pub mod Span
pub mod Sum
pub mod Promises
