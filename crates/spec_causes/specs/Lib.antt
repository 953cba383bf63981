pub mod Asking
pub mod Causes
pub mod Reaching
pub mod Showing
pub mod View
