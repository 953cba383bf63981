pub mod Classes
pub mod Classified
pub mod Equating
pub mod Linking
pub mod Nodes
pub mod Solved
pub mod Valued
pub mod Values
