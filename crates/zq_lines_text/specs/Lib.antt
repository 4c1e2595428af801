pub mod Text
pub mod Line
pub mod Reading
pub mod Written
pub mod Output
