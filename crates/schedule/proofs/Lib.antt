pub mod Ready
pub mod Through
pub mod Counted
pub mod Fixture
