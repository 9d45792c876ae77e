pub mod OpenLaws
pub mod PieceLaws
