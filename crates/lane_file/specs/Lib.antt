pub mod File
pub mod Read
pub mod Write
pub mod RoundTrip
