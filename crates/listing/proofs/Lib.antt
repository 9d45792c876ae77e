pub mod AnswerLaws
pub mod ListingExamples
pub mod ReadingLaws
pub mod TopLaws
pub mod WholeLaws
