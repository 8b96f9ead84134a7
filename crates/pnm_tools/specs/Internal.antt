-- Words that no contract of an exported function reaches.
pub mod Channel
pub mod Cut
pub mod Flip
