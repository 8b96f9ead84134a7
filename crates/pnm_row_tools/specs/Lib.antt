pub mod RowKeeping
pub mod Internal
