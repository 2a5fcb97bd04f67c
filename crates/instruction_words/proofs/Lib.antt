pub mod Words
pub mod Tables
