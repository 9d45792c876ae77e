pub mod DemandThree
pub mod RanLaws
