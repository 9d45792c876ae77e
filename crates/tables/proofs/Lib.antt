pub mod ItemLaws
pub mod WalkLaws
