pub mod FitLaws
pub mod FixLaws
pub mod ProduceLaws
pub mod ProduceNarrow
pub mod ProduceShapes
pub mod Wrapped
