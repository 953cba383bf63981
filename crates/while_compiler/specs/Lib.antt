pub mod Compiled
pub mod Examples
pub mod SameEnds
pub mod Source
pub mod Valid
