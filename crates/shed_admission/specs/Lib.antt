pub mod Found
pub mod Admitted
