pub mod Actions
pub mod Ends
pub mod Fitting
pub mod Following
pub mod WellMade
