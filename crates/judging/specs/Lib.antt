pub mod Calls
pub mod Judge
pub mod Scratch
pub mod PlainJudge
pub mod Runs
pub mod Claim
