pub mod NttDigits
pub mod Rows
pub mod Sums
