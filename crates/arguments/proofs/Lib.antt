pub mod ArgumentLaws
pub mod KeyLaws
