pub mod Rises
pub mod Whole
pub mod Witness
