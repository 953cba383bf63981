pub mod Cycling
pub mod Following
pub mod Meeting
pub mod Testing
pub mod Valuing
pub mod Walking
