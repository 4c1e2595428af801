pub mod Product
pub mod Sums
