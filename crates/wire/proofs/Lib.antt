pub mod OperationLaws
pub mod WireExamples
