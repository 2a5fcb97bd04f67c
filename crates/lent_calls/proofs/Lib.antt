pub mod Stays
pub mod There
