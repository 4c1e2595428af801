pub mod Row
pub mod Listing
