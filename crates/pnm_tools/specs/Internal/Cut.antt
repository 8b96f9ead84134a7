-- Between functions: the cut image, from pamcut(1): a rectangle of the image.
use Rattle.std.specs.Prelude.{◌≤◌, ℕ, ◌+◌, ◌*◌}
use Rattle.std.specs.Prelude.{List, length}
use Rattle.pnm_tools.specs.declared.cut.Span.{Span}

-- the columns lie in the row
abbrev pub KeepsWithin : {X : Type 0} → Span → ℕ → List X → Type 0
KeepsWithin columns depth row = (columns.first ≤ columns.last) × ((columns.last + 1) * depth ≤ length row)
