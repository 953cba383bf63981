pub mod ConsumeLaws
pub mod ConsumeNarrow
pub mod EntryLaws
pub mod KeyLaws
