mod Walk
mod Search
pub mod Then
pub mod Spans
