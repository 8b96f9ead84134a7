-- Words that no contract of an exported function reaches.
pub mod BitRows
pub mod Blocks
pub mod Columns
pub mod Pixels
pub mod Stretches
