pub mod Answering
pub mod Holding
