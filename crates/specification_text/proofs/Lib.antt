pub mod SpecificationLaws
pub mod SpecificationSays
