pub mod Response
pub mod Range
