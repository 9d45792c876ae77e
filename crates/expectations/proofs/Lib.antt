pub mod ExpectationLaws
