pub mod Held
pub mod Paid
pub mod Fits
pub mod Fed
pub mod Underway
pub mod EmptyingLaws
