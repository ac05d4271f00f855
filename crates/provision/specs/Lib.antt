pub mod Provided
pub mod Exact
pub mod Prepared
