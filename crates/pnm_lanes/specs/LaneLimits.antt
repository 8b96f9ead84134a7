-- How many lanes there may be.
use Rattle.std.specs.Prelude.{ℕ, ◌≤◌}
use Rattle.pnm_lanes.specs.declared.lane.TheConstants.{MAX_LANES}

abbrev pub IsLaneCount : ℕ → Type 0
IsLaneCount lanes = (1 ≤ lanes) × (lanes ≤ MAX_LANES)
