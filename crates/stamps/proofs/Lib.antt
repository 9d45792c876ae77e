pub mod TimeLaws
pub mod SpeltLaws
