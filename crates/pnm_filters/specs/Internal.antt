-- Words that no contract of an exported function reaches.
pub mod Pendings
pub mod States
pub mod Steps
