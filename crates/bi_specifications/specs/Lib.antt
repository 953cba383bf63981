pub mod Shape
pub mod Specified
pub mod View
