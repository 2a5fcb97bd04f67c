pub mod Grown
pub mod Bytes
pub mod Stages
pub mod Processes
