pub mod EntryLaws
pub mod Plainness
pub mod Origins
pub mod StartLaws
