pub mod NumberLaws
pub mod ValueExamples
pub mod ParseI64Laws
