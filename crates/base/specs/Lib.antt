pub mod Refusals
pub mod Tests
pub mod Lists
