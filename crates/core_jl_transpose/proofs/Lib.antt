pub mod Columns
pub mod Formula
