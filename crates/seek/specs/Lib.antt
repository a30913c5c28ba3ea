pub mod Seeking
pub mod Search
