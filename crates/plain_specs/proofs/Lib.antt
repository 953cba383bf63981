pub mod Frames
pub mod Beginning
pub mod Declared
pub mod Ends
pub mod Contained
