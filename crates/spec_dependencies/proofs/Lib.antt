pub mod Names
pub mod Places
pub mod Rounds
pub mod Steps
