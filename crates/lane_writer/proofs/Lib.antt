pub mod Stores
pub mod Blocks
