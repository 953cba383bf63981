pub mod Answers
pub mod Examining
pub mod Deciding
