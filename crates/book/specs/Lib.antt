pub mod Book
pub mod Refusals
