pub mod Verdicts
pub mod Judged
pub mod Whole
pub mod Determined
