pub mod Concatenated
pub mod Decimal
