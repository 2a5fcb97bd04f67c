pub mod Taking
pub mod Outputs
