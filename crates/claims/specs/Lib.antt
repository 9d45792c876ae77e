pub mod Total
pub mod WhiteSpace
