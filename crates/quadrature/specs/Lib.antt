pub mod Sums
pub mod Figures
pub mod Cuttings
