pub mod RingPackets
pub mod Rings
pub mod RingLimits
pub mod Prefixes
pub mod Stages
pub mod Starts
pub mod Internal
