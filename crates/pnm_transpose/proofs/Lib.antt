mod Words
pub mod ColumnLaws
pub mod BlockLaws
pub mod StripLaws
pub mod TransposeLaws
pub mod BitColumnLaws
pub mod RowsTogetherLaws
pub mod SampleRowLaws
pub mod FlatRowsLaws
