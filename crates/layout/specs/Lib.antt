pub mod Layout
pub mod OwnKind
pub mod Sizes
pub mod Refusals
pub mod Usable
pub mod Examination
pub mod SoundBook
