pub mod Rings
pub mod Taken
pub mod Left
pub mod Arrays
