pub mod Sameness
pub mod SheetSize
pub mod Responses
