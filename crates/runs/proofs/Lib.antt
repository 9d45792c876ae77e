pub mod CallingLaws
pub mod RunLaws
