pub mod Jacket
pub mod Cleared
