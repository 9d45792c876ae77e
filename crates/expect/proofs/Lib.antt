pub mod TellLaws
