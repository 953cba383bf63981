pub mod Leaving
pub mod View
