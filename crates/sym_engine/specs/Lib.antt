pub mod Forms
pub mod Lawful
pub mod Narrow
pub mod Placed
pub mod Plain
pub mod Settles
pub mod View
