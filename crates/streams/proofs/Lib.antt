pub mod Consumed
pub mod Message
