pub mod Cell
pub mod Formula
