pub mod Grammar
pub mod Located
pub mod Logic
pub mod Naming
pub mod Reading
pub mod Refusals
pub mod Texts
pub mod Vocabulary
