pub mod Enlarging
pub mod Keeping
pub mod Internal
