pub mod Assertions
pub mod Commands
pub mod Expressions
pub mod Programs
