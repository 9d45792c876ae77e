pub mod BlockRead
pub mod StepRead
