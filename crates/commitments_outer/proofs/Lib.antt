mod SmallParts
mod Used
pub mod Added
pub mod Answers
pub mod Products
pub mod Formula
