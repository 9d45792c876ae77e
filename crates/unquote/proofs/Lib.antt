pub mod UnquoteLaws
