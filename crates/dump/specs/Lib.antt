pub mod Dump
pub mod Times
