pub mod Numbers
pub mod Range
pub mod Cases
pub mod Response
pub mod Returned
