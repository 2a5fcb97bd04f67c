pub mod Filling
pub mod Sized
