pub mod BackStartLaws
pub mod FrontEndLaws
