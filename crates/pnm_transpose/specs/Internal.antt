-- Words that no contract of an exported function reaches.
pub mod ColumnBatches
pub mod FlatRows
pub mod HeldColumns
pub mod Keeping
pub mod SampleRows
pub mod Strips
