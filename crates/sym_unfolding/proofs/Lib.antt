pub mod AddLaws
pub mod AddOrigins
pub mod OriginLaws
pub mod SearchLaws
pub mod SearchOrigins
pub mod UnfoldLaws
pub mod UnfoldOrigins
