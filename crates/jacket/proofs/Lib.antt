pub mod Sizes
pub mod Cleared
pub mod Proper
