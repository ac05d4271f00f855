pub mod Demands
pub mod Offsets
