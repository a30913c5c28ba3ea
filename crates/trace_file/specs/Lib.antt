pub mod Form
pub mod Trace
pub mod OneBank
