pub mod Line
pub mod Listing
