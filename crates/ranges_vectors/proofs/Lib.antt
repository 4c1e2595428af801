pub mod Ends
pub mod Picked
pub mod Choices
pub mod Tests
pub mod Worked
