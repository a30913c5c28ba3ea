pub mod Exchange
pub mod Demand1
pub mod Served
pub mod Reached
pub mod Unused
