pub mod Small
pub mod Parsing
pub mod Laws
pub mod Example
pub mod Decimal
pub mod Runs
pub mod Ends
pub mod Chunks
