pub mod Again
pub mod Ascii
mod Elements
mod Followed
