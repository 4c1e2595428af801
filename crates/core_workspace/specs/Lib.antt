pub mod Ready
pub mod Holds
pub mod Aggregated
