use Rattle.pnm_lanes.proofs.Words.{◌≡◌, ◌≢◌, ◌+◌, ◌<◌, ℕ, sym, ap, ◌∙◌, arith, rules, at_lane, get_or, in_held, next_of, Held}
use Rattle.pnm_lanes.proofs.LaneLists.{at_lane-get}
use Rattle.pnm_lanes.proofs.TakenParts.{by_lane}
use Rattle.pnm_lanes.proofs.together.are_all.Goals as goal

pub returns-then-ne-clause-not : goal.returns-then-ne-clause-not
returns-then-ne-clause-not c is =
    let held : Held = c.index-held-lane.result in
    let elem : get_or c.args.held.now c.loop-lane.lane held ≡ held = search (rules, c.index-held-lane.is) in
    let here = at_lane-get in_held c.args.held.now c.loop-lane.lane held c.loop-lane-test.true ∙ ap in_held elem in
    let differs : c.next.result ≢ c.args.next = search rules in
    (c.loop-lane.lane, c.loop-lane-test.true, λ e. differs (c.next.ensures ∙ sym (ap next_of here) ∙ e))

pub loop-lane-preserved : goal.loop-lane-preserved
loop-lane-preserved c lane below =
    let held : Held = c.index-held-lane.result in
    let elem : get_or c.args.held.now c.loop-lane.lane held ≡ held = search (rules, c.index-held-lane.is) in
    let here = at_lane-get in_held c.args.held.now c.loop-lane.lane held c.loop-lane-test.true ∙ ap in_held elem in
    let same : c.next.result ≡ c.args.next = search rules in
    by_lane (λ (l : ℕ). l < c.loop-lane.lane + 1 → next_of (at_lane in_held c.args.held.now l) ≡ c.args.next) c.loop-lane.lane lane
    (λ b. ap next_of here ∙ sym c.next.ensures ∙ same) (λ differ b. c.loop-lane.invariant lane (omega (arith, b, differ))) below
