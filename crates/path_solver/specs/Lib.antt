pub mod Falling
pub mod Outside
pub mod Searching
pub mod Solving
pub mod Standing
