pub mod Bound
pub mod Right
pub mod Told
