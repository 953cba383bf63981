pub mod Json
pub mod Lines
pub mod Printed
pub mod Proofs
pub mod Pure
pub mod View
