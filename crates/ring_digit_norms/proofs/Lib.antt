pub mod Rests
pub mod Squares
mod LeftOver
