pub mod lists
pub mod algebra
pub mod transform
