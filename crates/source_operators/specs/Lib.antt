pub mod Codes
pub mod Names
pub mod Operands
pub mod Pure
pub mod View
