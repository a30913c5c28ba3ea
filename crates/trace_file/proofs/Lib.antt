pub mod Sections
pub mod Empty
pub mod OneBank
