pub mod Filling
pub mod Rising
