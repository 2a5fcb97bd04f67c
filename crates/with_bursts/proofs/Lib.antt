pub mod Written
pub mod Fairly
pub mod Whole
pub mod Witness
