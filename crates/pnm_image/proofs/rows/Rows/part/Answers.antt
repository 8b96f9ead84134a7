use Rattle.std.proofs.Common.{◌≡◌, ◌≤◌, ◌∙◌, ℕ, List, All, length, take, drop, ap, sym, arith}
use Rattle.pnm_image.specs.HeldRows.{row_lists}
use Rattle.pnm_image.proofs.HeldRowLaws.{all_of_part, length_of_lists}
use Rattle.pnm_image.proofs.rows.Rows.part.Goals as goal

pub part_of-requires : goal.part_of-requires
part_of-requires c =
    let r = c.self.inside in
    let many : length c.args.self.now ≡ r.count = ap (λ (l : List (List ℕ)). length l) (sym c.self.view_is)
    ∙ length_of_lists r.count r.row_length r.held c.self.invariant.1 in
    (r.count, c.self.invariant.1, omega (arith, many, c.requires.within))

pub new-requires-clause-within : goal.new-requires-clause-within
new-requires-clause-within c =
    let r = c.self.inside in
    let many : length c.args.self.now ≡ r.count = ap (λ (l : List (List ℕ)). length l) (sym c.self.view_is)
    ∙ length_of_lists r.count r.row_length r.held c.self.invariant.1 in
    let P : List ℕ → Type 0 = λ row. All (λ sample. sample ≤ r.bound) row in
    let is = c.in_ok-held.ensures.rows r.count c.self.invariant.1 (omega (arith, many, c.requires.within)) in
    all_of_part P _ c.args.count (row_lists r.count r.row_length r.held) (row_lists c.args.count r.row_length c.in_ok-held.held) is
    c.self.invariant.2

pub returns : goal.returns
returns c =
    let r = c.self.inside in
    let many : length c.args.self.now ≡ r.count = ap (λ (l : List (List ℕ)). length l) (sym c.self.view_is)
    ∙ length_of_lists r.count r.row_length r.held c.self.invariant.1 in
    c.new.ensures ∙ c.in_ok-held.ensures.rows r.count c.self.invariant.1 (omega (arith, many, c.requires.within))
    ∙ ap (λ (l : List (List ℕ)). take c.args.count (drop c.args.top l)) c.self.view_is
