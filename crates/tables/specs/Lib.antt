pub mod Items
pub mod SetRead
pub mod Walks
