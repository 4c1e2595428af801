pub mod Congruence
pub mod Rows
pub mod Insert
