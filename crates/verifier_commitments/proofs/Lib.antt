pub mod Compared
pub mod OuterLaws
