pub mod TranscriptSections
pub mod SectionRoom
