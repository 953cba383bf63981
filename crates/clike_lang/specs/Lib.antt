pub mod Laws
pub mod Meaning
pub mod Names
pub mod Pure
pub mod Start
pub mod View
