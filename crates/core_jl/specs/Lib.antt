pub mod Rows
pub mod Run
