pub mod LoadNeeds
