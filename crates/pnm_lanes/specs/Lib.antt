pub mod LaneLimits
pub mod Deals
pub mod Gathers
pub mod LaneLaws
pub mod Lanes
pub mod LaneRings
pub mod LaneRuns
pub mod Internal
