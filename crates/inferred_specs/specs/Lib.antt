pub mod Inferred
pub mod Laws
