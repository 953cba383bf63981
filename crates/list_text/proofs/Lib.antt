pub mod ListLaws
pub mod Same
