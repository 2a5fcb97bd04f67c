pub mod Xor
pub mod Law
