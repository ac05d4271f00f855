pub mod Computed
pub mod Numerals
