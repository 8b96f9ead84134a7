pub mod Strips
pub mod SampleRows
pub mod Keeping
pub mod Internal
