pub mod Many
pub mod NumberLaws
pub mod Says
pub mod TextLaws
pub mod ValueLaws
pub mod WordLaws
