pub mod Wrap
pub mod Quotient
