pub mod Atoms
pub mod Kinds
pub mod Laws
pub mod Nodes
pub mod Rows
pub mod Rules
pub mod Sides
pub mod Steps
