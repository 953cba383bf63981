pub mod NameLists
pub mod Names
pub mod ObjectLaws
pub mod Objects
pub mod Rows
pub mod Table
