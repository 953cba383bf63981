pub mod Laws
pub mod Meaning
pub mod Names
pub mod Pure
pub mod Resolved
pub mod Start
pub mod View
