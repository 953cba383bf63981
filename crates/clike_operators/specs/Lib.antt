pub mod Codes
pub mod Meaning
pub mod Pure
pub mod Ranges
