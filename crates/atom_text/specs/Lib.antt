pub mod Accepted
pub mod Grammar
pub mod Meaning
pub mod Naming
pub mod Reading
pub mod Refusals
pub mod Resolving
pub mod Sources
