pub mod Table
pub mod Sum
pub mod Part
