pub mod Turns
pub mod Rule
pub mod Picks
pub mod Tests
pub mod RoundLaws
pub mod Reliefs
pub mod Witness
