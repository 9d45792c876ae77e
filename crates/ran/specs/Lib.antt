pub mod Ran
pub mod Told
