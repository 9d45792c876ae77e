pub mod BehindLaws
pub mod CutLaws
pub mod PieceLaws
