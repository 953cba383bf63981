pub mod Lists
pub mod Named
pub mod Over
pub mod Refuted
pub mod Starts
pub mod Truths
pub mod Valuations
