pub mod Rule
pub mod Tables
