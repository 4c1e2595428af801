pub mod CrtLaws
pub mod Residue
pub mod Inner
