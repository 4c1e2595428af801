pub mod Indexes
pub mod Cut
pub mod WholeP
pub mod EndToEnd
pub mod WholeT
pub mod Calls
pub mod Fit
pub mod Stored
