pub mod Calls
pub mod Extending
pub mod Fitting
pub mod Making
pub mod Running
pub mod Walk
