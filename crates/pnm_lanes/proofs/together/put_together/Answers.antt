use Rattle.pnm_lanes.proofs.Words.{length, sym, subst, Place, BeginsNone, HoldNext, at_lane, in_held}
use Rattle.pnm_lanes.proofs.TogetherSteps.{nothing_after}
use Rattle.pnm_lanes.proofs.together.put_together.Goals as goal

pub returns-in-After-clause-not : goal.returns-in-After-clause-not
returns-in-After-clause-not c =
    subst (λ (p : Place). BeginsNone (length c.args.held.now) p (at_lane in_held c.args.held.now)) (sym c.in-After.is)
    (nothing_after c.args.held.now c.requires.some (subst (λ (p : Place). HoldNext (length c.args.held.now) p c.args.held.now) c.in-After.is c.requires.next))
