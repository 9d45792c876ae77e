pub mod JudgeLaws
pub mod RangeLaws
pub mod EveryLaws
pub mod StepLaws
