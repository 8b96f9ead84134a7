use Rattle.pnm_repeat_tools.proofs.Words.{◌+◌, ◌<◌, ◌++◌, List, ℕ, length, ap, ap₂, refl, arith, length_of_lists}
use Rattle.pnm_repeat_tools.proofs.KeptRowLaws.{held_as_long, held_length, lent_rows, lent_whole}
use Rattle.pnm_repeat_tools.proofs.kept_rows.KeptRows.push_fronts.Goals as goal

pub overflow_add-self : goal.overflow_add-self
overflow_add-self c =
    let r = c.self.inside in
    omega (arith, c.requires.few, ap length c.self.view_is, length_of_lists r.count r.row_length r.held c.self.invariant)

pub invariant_of-self-2 : goal.invariant_of-self-2
invariant_of-self-2 c =
    let r = c.self.inside in
    let shown = c.args.shown in
    let old = c.args.self.now in
    let some : 0 < r.count = omega (arith, c.if-self-eq0.false) in
    let whole = lent_whole r.count r.row_length shown r.held c.self.invariant c.self.view_is c.requires.alike in
    (held_as_long (r.count + c.args.count) r.row_length shown _ _ c.hold_behind.new.held
    (held_length r.count r.row_length shown r.held c.self.invariant c.self.view_is some c.requires.alike)
    (c.in_ok-hold_behind.ensures.added r.count c.args.count shown whole c.in_ok-fronts.ensures.whole) refl).1

pub returns-clause-added : goal.returns-clause-added
returns-clause-added c =
    let r = c.self.inside in
    let shown = c.args.shown in
    let old = c.args.self.now in
    let some : 0 < r.count = omega (arith, c.if-self-eq0.false) in
    let whole = lent_whole r.count r.row_length shown r.held c.self.invariant c.self.view_is c.requires.alike in
    let rows = lent_rows r.count r.row_length shown r.held c.self.invariant c.self.view_is c.requires.alike in
    (held_as_long (r.count + c.args.count) r.row_length shown _ _ c.hold_behind.new.held
    (held_length r.count r.row_length shown r.held c.self.invariant c.self.view_is some c.requires.alike)
    (c.in_ok-hold_behind.ensures.added r.count c.args.count shown whole c.in_ok-fronts.ensures.whole)
    (ap₂ (λ (a b : List (List ℕ)). a ++ b) rows c.in_ok-fronts.ensures.rows)).0
