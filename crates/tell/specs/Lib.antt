pub mod Pick
pub mod Tell
