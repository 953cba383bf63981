pub mod Specifications
pub mod Checked
pub mod Rows
pub mod Laws
pub mod Programs
