pub mod EntriesLaws
pub mod EntryLaws
pub mod InsideLaws
pub mod LaidLaws
pub mod ScriptLaws
