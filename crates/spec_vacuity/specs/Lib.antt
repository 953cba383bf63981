pub mod Translation
pub mod Vacuity
