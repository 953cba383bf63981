pub mod Names
pub mod RecordLaws
pub mod Records
pub mod Rows
pub mod Table
