pub mod Acts
pub mod Theorem
