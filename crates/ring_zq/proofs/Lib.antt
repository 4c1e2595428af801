pub mod Made
mod Signed
pub mod Words
pub mod Part
mod Order
mod Near
