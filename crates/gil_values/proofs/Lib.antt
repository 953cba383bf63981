mod DivisionLaws
pub mod Joined
pub mod Lists
pub mod Numbers
pub mod Numerals
pub mod OperatorSymbols
mod PrintedRows
pub mod Rows
mod TableLaws
pub mod Views
