pub mod Fits
pub mod Against
