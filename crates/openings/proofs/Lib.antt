pub mod IsSkippedLaws
pub mod StampedLaws
