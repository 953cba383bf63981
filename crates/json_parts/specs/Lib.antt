pub mod Kept
pub mod Laws
pub mod Lines
pub mod Parts
