pub mod Admitted
pub mod Bounds
