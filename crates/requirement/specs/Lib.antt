pub mod Required
pub mod Exact
pub mod Criterion
pub mod Ranges
