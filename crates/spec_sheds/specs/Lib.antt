pub mod Runs
pub mod Split
