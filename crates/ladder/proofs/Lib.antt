pub mod Stages
pub mod Rules
