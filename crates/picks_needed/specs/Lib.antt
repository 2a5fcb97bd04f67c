pub mod Totals
pub mod Theorem
