pub mod Field
pub mod Fields
