pub mod OnlySource
pub mod Reading
pub mod SimpleMade
pub mod TextMade
