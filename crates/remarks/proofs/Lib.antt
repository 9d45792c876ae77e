pub mod PreambleLaws
