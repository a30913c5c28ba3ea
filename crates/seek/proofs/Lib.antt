pub mod LeftOut
pub mod OfBank
pub mod Turns
pub mod Marks
pub mod Before
