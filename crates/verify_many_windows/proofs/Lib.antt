pub mod DigitLaws
pub mod Products
pub mod WindowDigits
pub mod Progress
pub mod WindowLaws
