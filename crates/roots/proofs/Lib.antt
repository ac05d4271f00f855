pub mod Least
pub mod Squares
pub mod Roots
mod Parts
