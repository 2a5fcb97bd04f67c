pub mod Windows
pub mod SoundLaws
pub mod Shape
pub mod Keeps
pub mod Instructions
pub mod PickLaws
pub mod CallCases
pub mod CallLaws
