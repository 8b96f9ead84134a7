use Rattle.pnm_lanes.proofs.Words.{◌+◌, ◌<◌, ◌≤◌, ℕ, length, refl, sym, subst, ◌∙◌, arith, received, at_lane, in_held, Between, AreHolding}
use Rattle.pnm_lanes.proofs.LaneLists.{are_themselves, same_inputs, as_many}
use Rattle.pnm_lanes.proofs.TakenParts.{by_lane}
use Rattle.pnm_lanes.proofs.next.fill_each.Goals as goal

pub loop-lane-init : goal.loop-lane-init
loop-lane-init g c = (are_themselves c.args.inputs.now, λ passed holding. holding, λ other below. absurd (omega (arith, below)), refl, refl)

pub returns-in_err-fill-clause-inputs : goal.returns-in_err-fill-clause-inputs
returns-in_err-fill-clause-inputs g c =
    same_inputs c.args.inputs.now c.loop-lane.inputs c.fill.new.inputs c.loop-lane.invariant.0 c.fill.ensures.inputs

pub loop-lane-preserved : goal.loop-lane-preserved
loop-lane-preserved g c =
    let count = as_many c.args.inputs.now c.loop-lane.inputs c.loop-lane.invariant.0 in (
      same_inputs c.args.inputs.now c.loop-lane.inputs c.fill.new.inputs c.loop-lane.invariant.0 c.fill.ensures.inputs,
      λ passed holding. subst (λ (n : ℕ). AreHolding n c.fill.new.states passed (at_lane received c.fill.new.inputs) c.fill.new.held) count
          (c.in_ok-fill.ensures.filled Between passed
          (subst (λ (n : ℕ). AreHolding n c.loop-lane.states passed (at_lane received c.loop-lane.inputs) c.loop-lane.held) (sym count)
          (c.loop-lane.invariant.1 passed holding))),
      λ other below. by_lane (λ (l : ℕ). l < c.loop-lane.lane + 1 → 1 ≤ length (at_lane in_held c.fill.new.held l)) c.loop-lane.lane other
          (λ b. c.in_ok-fill.ensures.holds)
          (λ differ b. c.in_ok-fill.ensures.others other (c.loop-lane.invariant.2 other (omega (arith, b, differ)))) below,
      c.fill.ensures.as_many.0 ∙ c.loop-lane.invariant.3,
      c.fill.ensures.as_many.1 ∙ c.loop-lane.invariant.4,
    )
