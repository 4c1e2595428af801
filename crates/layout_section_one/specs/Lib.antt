pub mod SectionOne
