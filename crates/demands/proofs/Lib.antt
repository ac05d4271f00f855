pub mod Passes
pub mod Sheets
pub mod Surface
pub mod Entries
pub mod ReadingBack
pub mod Demands
pub mod Offsets
