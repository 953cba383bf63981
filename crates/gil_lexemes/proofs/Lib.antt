pub mod CursorLemmas
pub mod ListReading
pub mod Names
pub mod ReadingLaws
pub mod StandingLemmas
