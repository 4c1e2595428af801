pub mod Calls
mod Cleared
