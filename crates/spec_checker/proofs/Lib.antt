pub mod Answered
pub mod Examined
pub mod Found
pub mod Deciding
