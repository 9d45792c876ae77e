pub mod WriteLaws
pub mod ClosingLaws
