pub mod Omega
