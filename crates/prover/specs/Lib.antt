pub mod Worked
pub mod Proves
