mod Products
pub mod Tables
pub mod Sized
