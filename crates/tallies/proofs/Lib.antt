pub mod Counting
pub mod Refusals
pub mod CloseLaws
