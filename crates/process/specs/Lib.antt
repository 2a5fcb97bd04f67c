pub mod Channels
pub mod Process
pub mod Intent
pub mod Want
pub mod Execute
pub mod Window
