pub mod PartLaws
pub mod PartSays
