pub mod Pours
pub mod Ways
pub mod Feeds
pub mod Streams
pub mod Room
pub mod Whole
