pub mod Ladder
pub mod Sheets
pub mod Examples
pub mod Cut
pub mod Listing
pub mod Book
