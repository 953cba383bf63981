pub mod Beginnings
pub mod Conditions
pub mod Fixing
pub mod Missing
pub mod Narrowly
pub mod Opening
pub mod View
