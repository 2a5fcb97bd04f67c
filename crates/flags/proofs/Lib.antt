pub mod Clean
pub mod Digits
