pub mod Garbage
