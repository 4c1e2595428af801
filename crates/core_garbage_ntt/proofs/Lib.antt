pub mod Laws
pub mod LineLaws
pub mod Square
pub mod Made
