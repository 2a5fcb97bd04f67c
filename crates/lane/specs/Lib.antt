pub mod State
pub mod Sound
pub mod Pick
pub mod Calls
