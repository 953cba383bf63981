pub mod Appending
pub mod Branching
pub mod Falling
pub mod Keeping
pub mod Sorting
