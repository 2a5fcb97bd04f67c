pub mod Tests
pub mod Lists
pub mod Conjunction
pub mod Numbers
