pub mod Terms
pub mod Places
mod Made
pub mod Formula
