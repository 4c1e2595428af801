pub mod Fork
pub mod Extracted
pub mod Tree
pub mod Honest
