pub mod Left
pub mod Two
pub mod Settled
pub mod Working
pub mod Filled
pub mod Fields
pub mod Roll
