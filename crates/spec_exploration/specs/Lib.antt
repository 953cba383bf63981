pub mod Beginning
pub mod Calls
pub mod Ending
pub mod Exploring
pub mod Inside
pub mod Plain
