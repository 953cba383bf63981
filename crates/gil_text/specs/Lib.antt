pub mod Annotated
pub mod Blocks
pub mod Brackets
pub mod Located
pub mod Refusals
