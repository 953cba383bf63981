pub mod Pieces
pub mod Reports
