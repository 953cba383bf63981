pub mod Laws
pub mod Writable
pub mod Reading
