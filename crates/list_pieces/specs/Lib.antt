pub mod Lists
pub mod Pieces
pub mod Left
