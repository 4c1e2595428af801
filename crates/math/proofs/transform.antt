pub mod Computed
pub mod Evaluation
pub mod Layers
pub mod Trial
