pub mod Memory
pub mod Judging
pub mod EmptyTrace
pub mod History
