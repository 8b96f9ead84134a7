use Rattle.pnm_samples.proofs.Words.{Bor, ◌≡◌, ◌+◌, ◌-◌, ◌*◌, ◌<◌, ◌≤◌, ◌∙◌, ℕ, Vec, List, [], ap, length, map, refl, subst, sym, get_or, arith, Global}
use Rattle.pnm_samples.proofs.Words.{length-map, common_steps, bits_of, HavePairs}
use Rattle.pnm_samples.proofs.ColumnLaws.{HoldEight, HoldsGroups, eight_more, sixteen_hold, written_whole}
use Rattle.pnm_samples.proofs.transpose.column_bytes.Goals as goal

pub loop-beside-preserved : goal.loop-beside-preserved
loop-beside-preserved c =
    let rows = c.args.rows.now in
    let g = c.loop-group.group in
    let n = c.loop-beside.beside in
    let first = 16 * c.loop-part.part in
    let byte = c.args.byte + n in
    let old = c.loop-beside.columns in
    let new = c.put_pairs.new.columns in
    let pairs = c.columns_of_sixteen-pairs.result in
    let sixteen = c.sixteen_from-sixteen.result in
    let read : ℕ → List ℕ = λ k. map (λ (row : Bor (List ℕ)). get_or row.now k 0) sixteen in
    let lanes : List ℕ = read n in
    let place : first + (n - first) ≡ n = omega arith in
    let is : get_or c.lanes_beside-lanes.result (n - first) [] ≡ lanes = c.lanes_beside-lanes.ensures.lanes (n - first) (omega arith) ∙ ap read place in
    let count : length lanes ≡ 16 = length-map sixteen (λ (row : Bor (List ℕ)). get_or row.now n 0) ∙ c.sixteen_from-sixteen.ensures.count in
    let low : HoldEight byte rows (16 * g) 0 lanes =
    sixteen_hold c.args.byte (16 * g) n 0 rows sixteen c.sixteen_from-sixteen.ensures.count c.sixteen_from-sixteen.ensures.held refl (omega arith) in
    let high : HoldEight byte rows (16 * g) 8 lanes =
    sixteen_hold c.args.byte (16 * g) n 8 rows sixteen c.sixteen_from-sixteen.ensures.count c.sixteen_from-sixteen.ensures.held refl (omega arith) in
    let are : (j : ℕ) → j < 8 → get_or pairs j 0 ≡ bits_of (7 - j) lanes =
    subst (λ (l : List ℕ). (j : ℕ) → j < 8 → get_or pairs j 0 ≡ bits_of (7 - j) l) is c.columns_of_sixteen-pairs.ensures.columns in
    let put : HavePairs 8 (8 * n) (2 * g) pairs old.items new =
    subst (λ (l : List (Vec ℕ Global)). HavePairs 8 (8 * n) (2 * g) pairs l new) c.as_mut_slice.ensures.value c.put_pairs.ensures in
    let more = eight_more c.args.byte c.args.width c.div_ceil-groups.result rows g n pairs lanes old.items new count are low high put
    (omega (arith, c.min-beside-end.ensures)) c.requires.width c.loop-beside.invariant in
    subst (HoldsGroups c.args.byte c.args.width c.div_ceil-groups.result rows g (n + 1)) (sym (written_whole new old.items (old.ok.0 ∙ sym put.many))) more

pub returns : goal.returns
returns c =
    let _all : length c.args.rows.now ≤ 16 * c.div_ceil-groups.result = omega (arith, c.len.ensures, c.div_ceil-groups.ensures) in grind (arith, common_steps)
