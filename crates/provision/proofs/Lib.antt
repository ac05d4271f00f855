pub mod Enclosure
pub mod Growth
pub mod Sizes
