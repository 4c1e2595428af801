pub mod SpreadLaws
pub mod ColumnLaws
pub mod NttColumns
