pub mod Running
pub mod Counted
