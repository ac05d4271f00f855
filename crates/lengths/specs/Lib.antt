pub mod Units
pub mod Ladder
