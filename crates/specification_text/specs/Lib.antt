pub mod Reading
pub mod Writable
