pub mod Numbers
pub mod Evaluated
pub mod Keys
pub mod Forms
pub mod Stands
pub mod Tables
pub mod Sizes
