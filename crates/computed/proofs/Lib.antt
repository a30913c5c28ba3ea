pub mod Traced
pub mod Cases
