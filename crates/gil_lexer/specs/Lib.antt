pub mod Bytes
pub mod Faults
pub mod Reading
pub mod Signs
pub mod Spelling
pub mod Texts
pub mod Words
