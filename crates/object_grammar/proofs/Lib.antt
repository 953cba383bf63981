pub mod Beginnings
pub mod FunctionLaws
pub mod Leaves
pub mod NameLaws
pub mod SimpleReads
pub mod SimpleTakes
pub mod TextLaws
