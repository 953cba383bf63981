pub mod BlockReading
pub mod Seen
pub mod StatementNames
pub mod StatementReads
pub mod StatementTakes
pub mod StatementsMade
