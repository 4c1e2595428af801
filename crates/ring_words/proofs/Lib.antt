pub mod Overwritten
