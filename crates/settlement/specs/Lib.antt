pub mod Quarter
pub mod Laws
pub mod Points
