pub mod Adding
pub mod Answering
pub mod Further
pub mod Origins
pub mod Searching
pub mod Taking
pub mod Unfolding
pub mod View
