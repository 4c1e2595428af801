mod Values
pub mod Shifted
mod Step
