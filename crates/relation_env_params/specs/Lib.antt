pub mod Parameters
pub mod SectionOne
