pub mod Words
pub mod Facts
