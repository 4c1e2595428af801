pub mod Residues
pub mod Folds
pub mod Layer
pub mod LayerEntries
pub mod Halves
