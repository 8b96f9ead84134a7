-- Words that no contract of an exported function reaches.
pub mod ChainText
pub mod Settings
