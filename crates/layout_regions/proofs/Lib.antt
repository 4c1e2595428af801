pub mod Need
