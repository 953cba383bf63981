pub mod Over
pub mod Same
pub mod Tabled
