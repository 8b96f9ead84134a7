use Rattle.pnm_lanes.proofs.Words.{List, Some, length, sym, subst, HeadValue, IsHead, EndsBy, More, AreDealtHeads, at_lane, in_held, Held}
use Rattle.pnm_lanes.proofs.TogetherSteps.{nothing_begins, part_goes_on}
use Rattle.pnm_lanes.proofs.together.begin.Goals as goal

pub returns-in_default-clause-not : goal.returns-in_default-clause-not
returns-in_default-clause-not c =
    let not = c.take_ends.ensures.not c.if-take_ends.false in
    nothing_begins c.args.held.now not.1.0 not.1.1 c.requires.each not.1.2
    (subst (λ (h : List Held). (head : HeadValue) → IsHead head → AreDealtHeads (length h) head (at_lane in_held h) → ⊥) not.0 c.in_default.ensures.none)

pub returns-clause-ends : goal.returns-clause-ends
returns-clause-ends c = subst (EndsBy More) (sym c.new-part.ensures) (part_goes_on (Some c.in-Some.head) c.in-Ok.rows c.in-Ok.ends_image)
