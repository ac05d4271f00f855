pub mod Overlay
pub mod Parts
