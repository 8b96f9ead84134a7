-- Between functions: the rings of a tool over several lanes: one to each lane, of which the thread before the lanes
-- has the end to send on, and one from it, of which the thread behind them has the end to receive on.
use Rattle.std.specs.Prelude.{◌≡◌, ◌≤◌, [], length, vec_capacity}
use Rattle.pnm_lanes.specs.declared.lane_rings.LaneRings.{LaneRings}
use Rattle.pnm_lanes.specs.LaneLimits.{IsLaneCount}
use Rattle.pnm_lanes.specs.LaneRings.{AreUnused}

-- unused rings of 1 to 8 lanes, and room for what comes back of these
abbrev pub AreLaneRings : LaneRings → Type 0
AreLaneRings rings =
    AreUnused rings.outputs.items rings.lanes.items rings.inputs.items × IsLaneCount (length rings.lanes.items)
    × ((rings.reserved.items ≡ []) × (length rings.lanes.items ≤ vec_capacity rings.reserved))
