pub mod Ends
pub mod Pairs
