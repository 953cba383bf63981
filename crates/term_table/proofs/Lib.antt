pub mod CallerLemmas
pub mod NodeLaws
pub mod RebuildingLaws
pub mod TableLaws
