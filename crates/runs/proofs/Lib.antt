pub mod Bytes
pub mod Tests
pub mod Reliefs
pub mod Witness
