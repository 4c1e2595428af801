pub mod Held
pub mod Order
pub mod Weighed
