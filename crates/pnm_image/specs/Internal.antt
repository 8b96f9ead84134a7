-- Words that no contract of an exported function reaches.
pub mod PickedRows
