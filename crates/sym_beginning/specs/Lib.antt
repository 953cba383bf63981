pub mod Beginning
pub mod Entering
pub mod Plainly
pub mod Origins
pub mod Starting
pub mod View
