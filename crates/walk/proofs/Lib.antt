-- The lemmas are `mut_entry` (`Mutable`) and `ref_entry` (`Shared`); what they suppose is said at the head of `Entry`.
pub mod Locals
pub mod Cells
pub mod Parts
pub mod Spelled
pub mod Stores
pub mod Arrays
pub mod Frame
pub mod Lending
pub mod Parameters
pub mod Form
pub mod Contract
pub mod Borrowed
pub mod Call
pub mod Entry
pub mod Mutable
pub mod Shared
