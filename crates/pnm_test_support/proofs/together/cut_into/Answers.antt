use Rattle.std.proofs.Common.{◌≤◌, ℕ, List, All, sym, subst}
use Rattle.pnm_test_support.proofs.HeldRows.{cut_within}
use Rattle.pnm_test_support.proofs.together.cut_into.Goals as goal

pub new-requires-in-Bytes-clause-within : goal.new-requires-in-Bytes-clause-within
new-requires-in-Bytes-clause-within c =
    let bound = c.bound-bound.result in
    cut_within c.in-Ok.rows c.args.row_length bound c.in-Bytes.bytes.items
    (subst (λ (l : List ℕ). All (λ sample. sample ≤ bound) l) (sym c.in-Bytes.ensures) c.bound-bound.ensures)

pub new-requires-in-Words-clause-within : goal.new-requires-in-Words-clause-within
new-requires-in-Words-clause-within c =
    let bound = c.bound-bound.result in
    cut_within c.in-Ok.rows c.args.row_length bound c.in-Words.words.items
    (subst (λ (l : List ℕ). All (λ sample. sample ≤ bound) l) (sym c.in-Words.ensures) c.bound-bound.ensures)
