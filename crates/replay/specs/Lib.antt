pub mod Memory
pub mod Replay
pub mod EmptyTrace
pub mod History
