pub mod Last
pub mod Slot
pub mod InParts
pub mod Passed
pub mod Unused
