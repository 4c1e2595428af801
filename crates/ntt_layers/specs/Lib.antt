pub mod Fold
pub mod Layer
pub mod Words
