pub mod Counts
pub mod Ends
pub mod FieldCodes
pub mod Functions
pub mod NewRecords
pub mod Validity
pub mod Following
