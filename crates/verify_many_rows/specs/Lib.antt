pub mod NttForm
pub mod Rows
