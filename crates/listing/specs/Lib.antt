pub mod Number
pub mod Text
pub mod Written
pub mod Listing
