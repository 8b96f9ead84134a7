-- How many packets a ring may hold.
use Rattle.std.specs.Prelude.{ℕ, ◌≤◌}
use Rattle.pnm_stages.specs.declared.ring.TheConstants.{MAX_RING_CAPACITY}

-- room for 1 packet at least: in a ring without room none passes
abbrev pub IsRingCapacity : ℕ → Type 0
IsRingCapacity capacity = (1 ≤ capacity) × (capacity ≤ MAX_RING_CAPACITY)
