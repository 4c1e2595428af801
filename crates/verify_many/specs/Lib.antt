pub mod Answers
pub mod Windows
