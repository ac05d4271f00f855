pub mod Shares
pub mod Limits
pub mod ColdLines
pub mod WithinLimit
pub mod JacketPrice
pub mod BothKinds
pub mod Promises
pub mod Worked
