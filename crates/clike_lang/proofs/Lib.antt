pub mod MoreTurns
