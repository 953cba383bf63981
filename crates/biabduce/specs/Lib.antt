pub mod Asked
pub mod Covering
pub mod Decided
pub mod Narrowly
pub mod NarrowRuns
pub mod Sound
pub mod View
