pub mod Outcome
pub mod Pass
