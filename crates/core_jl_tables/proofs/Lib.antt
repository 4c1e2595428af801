mod Terms
mod Blocks
pub mod Spread
pub mod Groups
