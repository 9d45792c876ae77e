pub mod CodeLaws
pub mod VerdictExamples
