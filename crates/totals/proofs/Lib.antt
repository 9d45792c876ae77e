pub mod BoundLaws
pub mod OpenLaws
