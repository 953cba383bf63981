pub mod Matching
pub mod Meaning
pub mod Origins
pub mod Parts
pub mod Plainly
pub mod Pure
pub mod Splitting
pub mod View
