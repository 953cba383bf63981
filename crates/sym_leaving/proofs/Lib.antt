pub mod ReturnLaws
pub mod ThrowLaws
