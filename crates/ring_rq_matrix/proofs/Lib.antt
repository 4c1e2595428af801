pub mod Place
pub mod Word
pub mod Fill
pub mod Mirror
pub mod Formula
