pub mod Division
pub mod Class
pub mod Taken
pub mod Inserted
pub mod Words
pub mod Order
