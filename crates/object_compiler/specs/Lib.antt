pub mod Compiled
pub mod SameEnds
pub mod Source
pub mod Valid
