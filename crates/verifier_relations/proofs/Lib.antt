pub mod Scratch
pub mod Sides
