pub mod Extending
pub mod Fitting
pub mod Making
pub mod Leaving
pub mod Lengths
pub mod ListCodes
pub mod Steps
