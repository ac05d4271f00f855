pub mod FirstFault
pub mod Ladder
pub mod Admitted
pub mod OneProof
pub mod Passes
pub mod Criteria
