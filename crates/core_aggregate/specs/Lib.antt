pub mod Weighed
pub mod Omega
