pub mod Cells
pub mod Extending
pub mod Fitting
pub mod Making
pub mod Ranges
pub mod Running
