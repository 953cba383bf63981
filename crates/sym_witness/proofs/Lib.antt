pub mod Fresh
pub mod Numbered
pub mod Others
pub mod Places
pub mod SymbolLaws
