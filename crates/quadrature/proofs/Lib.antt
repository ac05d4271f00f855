pub mod Sums
pub mod Strips
pub mod Enclosure
