pub mod Sparse
mod Row
pub mod Product
mod Extension
mod Grown
