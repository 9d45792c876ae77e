pub mod DumpedLaws
pub mod JudgedLaws
