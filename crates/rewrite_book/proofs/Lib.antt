pub mod Congruence
pub mod NormalForms
pub mod OneMore
pub mod Shipped
