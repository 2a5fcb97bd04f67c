pub mod Kept
pub mod Short
pub mod Stages
pub mod Parts
pub mod Fresh
