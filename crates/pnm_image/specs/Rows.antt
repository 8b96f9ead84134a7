-- Rows that are handed over together.
use Rattle.std.specs.Prelude.{ℕ, zero, suc, List, [], ◌∷◌, map, Option, Some, None}
use Rattle.pnm_image.specs.declared.message.Message.{Message}
use Rattle.pnm_image.specs.declared.message.Message.TheVariants.{Row}

-- rows as messages
abbrev pub row_messages : List (List ℕ) → List Message
row_messages rows = map Row rows

-- rows that are handed over together, or none
abbrev pub rows_list : Option (List (List ℕ)) → List (List ℕ)
rows_list None = []
rows_list (Some rows) = rows

-- of a list, what follows so many, and of the rest every one behind so many more
abbrev pub every : {X : Type 0} → ℕ → ℕ → List X → List X
every skip gap [] = []
every zero gap (x ∷ xs) = x ∷ every gap gap xs
every (suc skip) gap (x ∷ xs) = every skip gap xs
