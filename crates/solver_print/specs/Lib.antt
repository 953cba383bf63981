pub mod Atoms
pub mod Laws
pub mod Proofs
pub mod Terms
