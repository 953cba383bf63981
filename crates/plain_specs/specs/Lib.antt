pub mod Contained
pub mod Laws
