pub mod Roots
pub mod Transforms
