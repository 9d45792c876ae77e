pub mod SearchLaws
pub mod PlaceLaws
pub mod ContainsLaws
