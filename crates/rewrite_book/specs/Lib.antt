pub mod Answers
pub mod Books
pub mod Forms
pub mod Heads
pub mod Nodes
pub mod Normals
pub mod Sets
pub mod ShippedRules
