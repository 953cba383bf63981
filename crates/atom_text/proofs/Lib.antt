pub mod Lists
pub mod Loops
pub mod NamingLemmas
pub mod ReadingLaws
pub mod RefusalLemmas
pub mod TermLaws
