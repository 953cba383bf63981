mod ItemLoop
pub mod LogicLaws
pub mod MadeLaws
pub mod NameLaws
mod NamingLemmas
pub mod RefusalLemmas
pub mod TextLaws
