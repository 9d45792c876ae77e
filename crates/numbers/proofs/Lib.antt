pub mod NumberLaws
pub mod SignedLaws
