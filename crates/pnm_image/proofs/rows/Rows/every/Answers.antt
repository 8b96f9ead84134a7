use Rattle.std.proofs.Common.{◌≡◌, ◌≤◌, ◌<◌, ◌-◌, ◌∙◌, ℕ, List, All, length, ap, sym, subst, arith}
use Rattle.pnm_image.specs.HeldRows.{AreRowsWithin, row_lists}
use Rattle.pnm_image.specs.Rows.{every}
use Rattle.pnm_image.proofs.HeldRowLaws.{length_of_lists}
use Rattle.pnm_image.proofs.PickedLaws.{all_of_every, every_by_quotient, some_picked}
use Rattle.pnm_image.proofs.rows.Rows.every.Goals as goal

pub overflow_sub-self-inside : goal.overflow_sub-self-inside
overflow_sub-self-inside c =
    let r = c.self.inside in
    let many : length c.args.self.now ≡ r.count = ap (λ (l : List (List ℕ)). length l) (sym c.self.view_is)
    ∙ length_of_lists r.count r.row_length r.held c.self.invariant.1 in
    omega (arith, many, c.requires.from)

pub every_of-requires : goal.every_of-requires
every_of-requires c =
    let r = c.self.inside in
    let many : length c.args.self.now ≡ r.count = ap (λ (l : List (List ℕ)). length l) (sym c.self.view_is)
    ∙ length_of_lists r.count r.row_length r.held c.self.invariant.1 in
    let from : c.args.from < r.count = omega (arith, many, c.requires.from) in
    (r.count, c.self.invariant.1, every_by_quotient r.count c.args.from c.args.step _ from c.requires.step c.div_ceil-many.ensures)

pub new-requires-clause-some : goal.new-requires-clause-some
new-requires-clause-some c =
    let r = c.self.inside in
    let many : length c.args.self.now ≡ r.count = ap (λ (l : List (List ℕ)). length l) (sym c.self.view_is)
    ∙ length_of_lists r.count r.row_length r.held c.self.invariant.1 in
    let from : c.args.from < r.count = omega (arith, many, c.requires.from) in
    some_picked r.count c.args.from c.args.step _ from (every_by_quotient r.count c.args.from c.args.step _ from c.requires.step c.div_ceil-many.ensures)

pub new-requires-clause-within : goal.new-requires-clause-within
new-requires-clause-within c =
    let r = c.self.inside in
    let many : length c.args.self.now ≡ r.count = ap (λ (l : List (List ℕ)). length l) (sym c.self.view_is)
    ∙ length_of_lists r.count r.row_length r.held c.self.invariant.1 in
    let from : c.args.from < r.count = omega (arith, many, c.requires.from) in
    let P : List ℕ → Type 0 = λ row. All (λ sample. sample ≤ r.bound) row in
    subst (AreRowsWithin r.bound)
    (sym (c.in_ok-held.ensures.rows r.count c.self.invariant.1
    (every_by_quotient r.count c.args.from c.args.step _ from c.requires.step c.div_ceil-many.ensures)))
    (all_of_every P c.args.from (c.args.step - 1) (row_lists r.count r.row_length r.held) c.self.invariant.2)

pub returns : goal.returns
returns c =
    let r = c.self.inside in
    let many : length c.args.self.now ≡ r.count = ap (λ (l : List (List ℕ)). length l) (sym c.self.view_is)
    ∙ length_of_lists r.count r.row_length r.held c.self.invariant.1 in
    let from : c.args.from < r.count = omega (arith, many, c.requires.from) in
    c.new.ensures
    ∙ c.in_ok-held.ensures.rows r.count c.self.invariant.1
    (every_by_quotient r.count c.args.from c.args.step _ from c.requires.step c.div_ceil-many.ensures)
    ∙ ap (every c.args.from (c.args.step - 1)) c.self.view_is
