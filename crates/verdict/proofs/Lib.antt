pub mod FirstRung
pub mod Judgement
pub mod Growth
