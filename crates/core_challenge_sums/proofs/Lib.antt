pub mod Swapped
pub mod Columns
pub mod Lines
