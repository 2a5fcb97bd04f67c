pub mod Run
pub mod Reliefs
