mod Added
mod Covering
mod Entering
mod Fixed
mod NarrowAgain
mod Narrowness
mod Openings
pub mod Params
pub mod Tables
pub mod Taken
pub mod Unions
