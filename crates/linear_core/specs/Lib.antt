pub mod Answers
pub mod Combining
pub mod Confirmed
pub mod Differences
pub mod Nodes
pub mod Rows
pub mod Valuations
pub mod Walks
