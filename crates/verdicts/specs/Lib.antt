pub mod Expected
pub mod Told
pub mod Lookup
pub mod Decisions
pub mod Verdicts
pub mod Messages
pub mod Held
pub mod Subjects
