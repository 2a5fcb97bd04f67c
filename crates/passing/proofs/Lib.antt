pub mod Digits
pub mod Limits
pub mod Right
pub mod Lasts
pub mod Codes
