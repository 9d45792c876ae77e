pub mod BlankLaws
pub mod DumpExamples
pub mod DumpLaws
pub mod TimesLaws
