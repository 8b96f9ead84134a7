-- Words that no contract of an exported function reaches.
pub mod Feeding
pub mod SerialChains
pub mod SerialRuns
