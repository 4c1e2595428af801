pub mod Result
mod Owned
pub mod Rows
pub mod Determined
pub mod ValueBack
