pub mod Verdict
pub mod Choice
