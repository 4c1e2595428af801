pub mod Sums
pub mod Exit
pub mod Call
