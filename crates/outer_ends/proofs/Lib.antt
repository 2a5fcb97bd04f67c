pub mod Outers
