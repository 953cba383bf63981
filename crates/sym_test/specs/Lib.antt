pub mod Bugs
pub mod Canonical
pub mod Judged
pub mod Undecided
pub mod View
