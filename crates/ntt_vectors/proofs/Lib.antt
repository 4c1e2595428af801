pub mod Stored
pub mod ValueSums
pub mod Laws
pub mod SumsLaws
