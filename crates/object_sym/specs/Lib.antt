pub mod Fixes
pub mod Forms
pub mod Laws
pub mod ObjectMeaning
pub mod Places
pub mod Plain
pub mod Table
pub mod View
