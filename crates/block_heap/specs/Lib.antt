pub mod BlockLaws
pub mod Cells
pub mod Names
pub mod Rows
pub mod Table
