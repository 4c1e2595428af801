pub mod Ready
mod Refused
pub mod Determined
pub mod Exact
