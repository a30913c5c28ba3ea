pub mod Numbering
pub mod Entry
pub mod Place
pub mod Lent
