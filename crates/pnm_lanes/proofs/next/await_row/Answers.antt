use Rattle.pnm_lanes.proofs.Words.{ℕ, sym, subst, received, at_lane, AreHolding, HasFilled}
use Rattle.pnm_lanes.proofs.LaneLists.{same_inputs, as_many}
use Rattle.pnm_lanes.proofs.next.await_row.Goals as goal

pub returns-then-are_rows_together-clause-inputs : goal.returns-then-are_rows_together-clause-inputs
returns-then-are_rows_together-clause-inputs g c =
    same_inputs c.args.inputs.now c.fill.new.inputs c.fill_each.new.inputs c.fill.ensures.inputs c.fill_each.ensures.inputs

pub returns-then-are_rows_together-clause-filled : goal.returns-then-are_rows_together-clause-filled
returns-then-are_rows_together-clause-filled g c place passed holding =
    let count = as_many c.args.inputs.now c.fill.new.inputs c.fill.ensures.inputs in
    subst (λ (n : ℕ). HasFilled n place c.fill_each.result c.fill_each.new.states passed (at_lane received c.fill_each.new.inputs) c.fill_each.new.held) count
    (c.fill_each.ensures.filled place passed
    (subst (λ (n : ℕ). AreHolding n c.fill.new.states passed (at_lane received c.fill.new.inputs) c.fill.new.held) (sym count)
    (c.in_ok-fill.ensures.filled place passed holding)))
