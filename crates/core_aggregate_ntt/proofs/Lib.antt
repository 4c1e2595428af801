pub mod Terms
pub mod Mixed
pub mod Faster
pub mod FormLaws
pub mod OnePassForms
pub mod Vectors
pub mod Made
