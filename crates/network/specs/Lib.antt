pub mod Code
pub mod Rules
