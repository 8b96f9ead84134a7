-- Words that no contract of an exported function reaches.
pub mod Encoding
pub mod Numerals
pub mod PixelCells
pub mod PlainParts
pub mod Sinks
pub mod WriteBuffers
pub mod WriteCalls
