-- Words that no contract of an exported function reaches.
pub mod ChainRuns
pub mod SerialTools
pub mod ThreadedRuns
