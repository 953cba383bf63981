pub mod Counting
pub mod DirectLaws
pub mod DirectSure
pub mod EqualLists
pub mod Evaluated
pub mod Folded
mod FoldingLaws
pub mod FragmentLaws
pub mod KindLaws
pub mod ListTests
pub mod PairTests
pub mod NamingLaws
mod ProperRows
pub mod Renamed
pub mod SimpleLaws
pub mod SymbolLaws
pub mod VariableLaws
pub mod Views
