mod Halves
pub mod Coefficient
pub mod Fours
