pub mod Replace
pub mod Finish
pub mod Calls
pub mod Places
pub mod Whole
