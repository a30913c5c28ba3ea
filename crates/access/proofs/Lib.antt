pub mod Judges
pub mod Finishes
pub mod Serves
