pub mod Rule
pub mod Roots
pub mod Laws
pub mod Primes
