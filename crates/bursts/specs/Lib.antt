pub mod Bursts
pub mod Singly
