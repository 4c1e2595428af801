mod CellLaws
pub mod FormLaws
pub mod RowLaws
mod SumLaws
mod Values
