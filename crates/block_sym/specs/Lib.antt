pub mod Asking
pub mod BlockMeaning
pub mod Laws
pub mod Plain
pub mod Table
pub mod View
