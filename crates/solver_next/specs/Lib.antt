pub mod Loose
pub mod Steps
