pub mod Drive
pub mod Parts
pub mod Reliefs
pub mod Series
