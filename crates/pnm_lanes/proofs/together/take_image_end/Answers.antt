use Rattle.pnm_lanes.proofs.TogetherSteps.{no_end_comes}
use Rattle.pnm_lanes.proofs.together.take_image_end.Goals as goal

pub returns-then-y-shape-clause-not : goal.returns-then-y-shape-clause-not
returns-then-y-shape-clause-not c is past each =
    no_end_comes c.args.held.now c.args.shape 0 past c.requires.some (each 0 c.requires.some) (λ e. absurd (c.if-y-shape.true e))

pub returns-clause-not : goal.returns-clause-not
returns-clause-not c is past each =
    let not = c.take_ends.ensures.not is in
    no_end_comes c.args.held.now c.args.shape not.1.0 past not.1.1 (each not.1.0 not.1.1) (λ e. not.1.2)
