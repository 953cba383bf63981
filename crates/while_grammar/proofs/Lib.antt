pub mod NameLaws
pub mod StatementReads
pub mod StatementTakes
pub mod TextLaws
