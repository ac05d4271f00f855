pub mod Growth
pub mod Enclosure
pub mod Given
