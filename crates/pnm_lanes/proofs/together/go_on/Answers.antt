use Rattle.pnm_lanes.proofs.Words.{None, sym, subst, EndsBy, More}
use Rattle.pnm_lanes.proofs.TogetherSteps.{part_goes_on}
use Rattle.pnm_lanes.proofs.together.go_on.Goals as goal

pub returns-in-Some-clause-ends : goal.returns-in-Some-clause-ends
returns-in-Some-clause-ends c = subst (EndsBy More) (sym c.in-Some.ensures.parts) (part_goes_on None c.in-Ok.rows c.in-Ok.ends_image)
