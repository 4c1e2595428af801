pub mod Demand3Calls
pub mod LoadCalls
