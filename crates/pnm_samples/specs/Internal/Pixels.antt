-- Between functions: pixels of one bit in bytes: eight a byte, the most significant bit leftmost; 1 is black, which
-- is sample 0.
use Rattle.std.specs.Prelude.{ℕ, List, slice_index}
use Rattle.std.specs.Int.{w8}
use mir.Val.{Fits}

-- each byte is below 256
abbrev pub AreBytes : List ℕ → Type 0
AreBytes bytes = (k : ℕ) → Fits w8 (slice_index bytes k)
