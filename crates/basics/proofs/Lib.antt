pub mod Cases
pub mod Tests
pub mod Below
pub mod Pastes
pub mod Portions
