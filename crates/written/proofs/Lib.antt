pub mod WrittenLaws
pub mod WriterLaws
