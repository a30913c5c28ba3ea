-- What the callers of the tracker need, and what its search needs.
pub mod Counts
mod Searched
