pub mod Line
pub mod Range
