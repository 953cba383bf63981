pub mod ChainSound
pub mod CloseLaws
pub mod Growing
pub mod HeldRows
pub mod Sizes
mod Sound
pub mod SumLaws
pub mod SumSound
pub mod Truths
pub mod Views
pub mod WalkLaws
