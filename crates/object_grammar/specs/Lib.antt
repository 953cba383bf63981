pub mod Functions
pub mod Reading
pub mod Signs
pub mod Statements
pub mod Texts
