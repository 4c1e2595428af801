pub mod Need
mod Refused
pub mod Found
pub mod Verdicts
pub mod Passing
pub mod Cut
