pub mod Unchanged
pub mod Holds
pub mod Aggregated
pub mod Ready
pub mod Steps
