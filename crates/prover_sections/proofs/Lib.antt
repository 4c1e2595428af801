mod SectionMade
mod Calls
