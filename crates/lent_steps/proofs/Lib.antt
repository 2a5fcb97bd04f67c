pub mod Cases
pub mod Turns
