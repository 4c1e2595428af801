pub mod Ring
pub mod Sum
pub mod Dot
pub mod Antiperiodic
pub mod Form
