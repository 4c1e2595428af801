pub mod Grid
pub mod Sums
pub mod Laws
pub mod Formed
pub mod Rows
pub mod Fours
