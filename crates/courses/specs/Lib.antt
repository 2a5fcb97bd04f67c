pub mod Courses
pub mod Exactly
pub mod Ends
pub mod Theorem
