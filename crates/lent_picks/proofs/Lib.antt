pub mod Drop
pub mod One
