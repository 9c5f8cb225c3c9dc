pub mod Sums
pub mod Division
pub mod Parts
pub mod Listed
pub mod Correction
pub mod Days
pub mod Chains
