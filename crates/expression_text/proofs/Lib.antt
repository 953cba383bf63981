pub mod ExpressionLaws
pub mod ExpressionSays
pub mod LeadLaws
