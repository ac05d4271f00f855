pub mod Requirements
pub mod Sizes
pub mod Losses
