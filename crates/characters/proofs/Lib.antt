pub mod LineTheorem
pub mod Scalars
pub mod TrimChars
pub mod TrimTheorem
pub mod TrimmedTexts
pub mod Unicode
