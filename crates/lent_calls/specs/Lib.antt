pub mod OneChannel
