pub mod Stages
pub mod Found
pub mod Ready
pub mod Fit
mod Lengths
