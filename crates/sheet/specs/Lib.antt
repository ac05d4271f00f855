pub mod Sheet
pub mod Fields
pub mod Search
pub mod Checks
pub mod Passes
pub mod Answer
pub mod Refusals
pub mod Admitted
