-- A lemma on tests beside std's.
use Rattle.std.proofs.Common.{◌≡◌, Bool, true, false, not, ◌&&◌}
use Rattle.std.proofs.lemmas.Bool.{and_parts, not-true}

-- one test fails and another passes
pub not_and_parts : (a b : Bool) → (not a && b) ≡ true → (a ≡ false) × (b ≡ true)
not_and_parts a b e = let parts = and_parts (not a) b e in (not-true a parts.0, parts.1)
