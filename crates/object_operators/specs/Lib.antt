pub mod Codes
pub mod Library
pub mod Meaning
pub mod Operations
pub mod Pure
pub mod Walk
