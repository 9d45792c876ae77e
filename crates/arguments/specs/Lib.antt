pub mod ArgumentRead
pub mod KeyRead
pub mod KeyTables
