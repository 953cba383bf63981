pub mod Asked
pub mod Inputs
pub mod Line
pub mod Pieces
pub mod Tasks
pub mod View
