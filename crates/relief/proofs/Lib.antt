pub mod Enlarged
pub mod Relieving
pub mod Arrays
pub mod Unwanted
pub mod Steps
