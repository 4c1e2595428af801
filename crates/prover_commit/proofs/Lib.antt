pub mod Lengths
pub mod Room
pub mod Answers
pub mod Commitments
mod TAndG
