pub mod Sizes
pub mod Walk
pub mod Decided
