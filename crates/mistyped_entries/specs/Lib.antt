pub mod Lacking
pub mod Entered
