pub mod LeftLaws
pub mod LinesLaws
