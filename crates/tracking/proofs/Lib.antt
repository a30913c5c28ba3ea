pub mod Entries
pub mod Banks
pub mod Sums
pub mod Tracking
pub mod View
pub mod Spare
pub mod Due
pub mod Worn
