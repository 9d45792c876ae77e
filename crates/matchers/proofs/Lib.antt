pub mod MatcherLaws
