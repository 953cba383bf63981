pub mod ProofLaws
pub mod ProofSays
