pub mod Forms
pub mod Laws
pub mod LiteralNames
pub mod Places
pub mod Plain
pub mod RecordMeaning
pub mod Table
pub mod View
