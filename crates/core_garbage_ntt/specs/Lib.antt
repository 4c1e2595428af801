pub mod NttGarbage
pub mod NttLines
