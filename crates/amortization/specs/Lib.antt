pub mod Growth
pub mod Share
pub mod Ranges
pub mod Refusals
pub mod Outcome
