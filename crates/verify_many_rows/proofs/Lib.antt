pub mod ARowLaws
pub mod Windows
