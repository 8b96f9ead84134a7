use Rattle.pnm_lanes.proofs.Words.{◌<◌, ◌%◌, ℕ, length, ap, ◌∙◌, arith, mod_below, length-set}
use Rattle.pnm_lanes.proofs.TogetherSteps.{one_added, added_same, are_added}
use Rattle.pnm_lanes.proofs.together.add_rows.Goals as goal

pub returns-then-not-branch-clause-added : goal.returns-then-not-branch-clause-added
returns-then-not-branch-clause-added c =
    let held = c.loop-y.held in
    let lane : ℕ = c.loop-y.y % length held in
    let within : lane < length held = mod_below c.loop-y.y (length held) (omega (arith, c.requires.some, c.loop-y.invariant.1)) in
    let same = c.in_ok-pass_row.ensures.same c.if-not-branch.true in
    are_added (added_same c.pass_row.new.rows held lane c.pass_row.new.self c.index-held-lane.result c.loop-y.invariant.0 within same.0 same.1)
    (omega (arith, c.loop-y-test.true))

pub loop-y-preserved : goal.loop-y-preserved
loop-y-preserved c =
    let held = c.loop-y.held in
    let lane : ℕ = c.loop-y.y % length held in
    let within : lane < length held = mod_below c.loop-y.y (length held) (omega (arith, c.requires.some, c.loop-y.invariant.1)) in (
      one_added c.pass_row.new.rows held lane c.pass_row.new.self c.index-held-lane.result c.loop-y.invariant.0
          (ap (λ (n : ℕ). c.loop-y.y % n) c.loop-y.invariant.1) within c.loop-y-test.true (c.in_ok-pass_row.ensures.passed c.if-not-branch.false),
      length-set held lane c.pass_row.new.self ∙ c.loop-y.invariant.1,
    )
