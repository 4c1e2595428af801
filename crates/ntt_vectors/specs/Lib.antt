pub mod NttForm
pub mod Sums
