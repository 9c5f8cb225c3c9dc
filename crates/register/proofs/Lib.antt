pub mod Order
pub mod Latest
pub mod Effect
pub mod Held
pub mod Totals
pub mod History
pub mod Days
pub mod Members
