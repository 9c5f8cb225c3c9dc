pub mod Rows
pub mod Calls
pub mod Shares
pub mod Effects
pub mod Memberships
