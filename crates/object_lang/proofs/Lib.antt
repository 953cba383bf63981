pub mod MoreTurns
pub mod Statements
