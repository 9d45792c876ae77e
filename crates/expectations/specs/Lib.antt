pub mod ExpectAnswers
