pub mod Reading
pub mod SimpleMade
pub mod Stars
pub mod TextMade
