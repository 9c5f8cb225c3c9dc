pub mod Added
pub mod Rolls
