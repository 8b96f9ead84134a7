use Rattle.pnm_row_tools.proofs.Words.{◌≡◌, length, map, take}
use Rattle.pnm_row_tools.proofs.change.change_into.Given as goal

-- the samples that have passed are changed
abbrev pub invariant-loop-at : goal.invariant-loop-at
invariant-loop-at g l =
    (length l.made.items ≡ length l.samples)
    × (map g.N.Width.value (take l.at l.made.items) ≡ map (λ sample. g.C.Change.changed l.change (g.W.Width.value sample)) (take l.at l.samples))
