pub mod WaitLaws
pub mod Receivers
pub mod Looks
