pub mod Numbers
pub mod Scanner
