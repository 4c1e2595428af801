pub mod Stored
pub mod Held
pub mod Row
pub mod Digits
pub mod Product
pub mod Rowable
