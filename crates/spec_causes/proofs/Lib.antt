pub mod Asked
pub mod Canonical
pub mod Existing
pub mod Prefixes
pub mod Reached
pub mod Starts
pub mod Shown
