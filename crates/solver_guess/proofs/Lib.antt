pub mod Taming
pub mod Trying
