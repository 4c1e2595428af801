mod Rows
mod Whole
pub mod Window
mod Windows
