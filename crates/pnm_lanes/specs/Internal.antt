-- Words that no contract of an exported function reaches.
pub mod DealParts
pub mod GatherParts
pub mod HeldMessages
pub mod LaneLaws
pub mod LaneRings
