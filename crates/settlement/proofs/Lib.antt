pub mod Balance
pub mod Steps
pub mod Points
