pub mod Lexemes
pub mod Lists
pub mod Reading
pub mod Standing
