pub mod Soundness
pub mod BothKinds
