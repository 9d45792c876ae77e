pub mod SignedLaws
pub mod PutLaws
pub mod CountLaws
