-- Lists that repeat.
use Rattle.std.specs.Prelude.{ℕ, zero, suc, List, [], ◌++◌}

-- the list, repeated this number of times
abbrev pub repeated : {A : Type 0} → ℕ → List A → List A
repeated zero l = []
repeated (suc n) l = l ++ repeated n l
