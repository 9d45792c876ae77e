pub mod Measured
pub mod Dumped
pub mod Judged
pub mod Answers
pub mod Tallies
