pub mod Forms
pub mod Small
