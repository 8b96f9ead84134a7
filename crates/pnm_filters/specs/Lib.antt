pub mod Pendings
pub mod States
pub mod AnyTools
pub mod RowStates
pub mod Internal
