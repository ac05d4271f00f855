pub mod Limits
pub mod FlatTable
pub mod Printed
