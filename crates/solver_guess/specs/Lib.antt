pub mod Guesses
pub mod Tame
