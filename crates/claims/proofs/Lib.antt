pub mod Claims
pub mod DemandOne
pub mod WhiteSpace
