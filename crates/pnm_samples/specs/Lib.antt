pub mod Cuts
pub mod Pixels
pub mod SampleVecs
pub mod Columns
pub mod PixelRows
pub mod Internal
