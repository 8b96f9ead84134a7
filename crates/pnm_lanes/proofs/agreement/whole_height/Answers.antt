use Rattle.pnm_lanes.proofs.Words.{◌≡◌, length, sym, ap, ◌∙◌, arith, dealt_height}
use Rattle.pnm_lanes.proofs.HeightSums.{sum_of_dealt}
use Rattle.pnm_lanes.proofs.agreement.whole_height.Goals as goal

pub returns-in_err-height-clause-none : goal.returns-in_err-height-clause-none
returns-in_err-height-clause-none c =
    rw c.from_residual.ensures
    (λ height within dealt. let same = sum_of_dealt c.args.heights.now height c.requires.some dealt in
    absurd (omega (arith, same, within, c.in_err-height.ensures.none)))

pub returns-then-part-dealt_height-clause-none : goal.returns-then-part-dealt_height-clause-none
returns-then-part-dealt_height-clause-none c height within dealt =
    let same = sum_of_dealt c.args.heights.now height c.requires.some dealt in
    let found : height ≡ c.in_ok-height.height = sym same ∙ sym c.in_ok-height.ensures.found.1 in
    c.if-part-dealt_height.true (dealt c.loop-lane.lane c.loop-lane-test.true ∙ ap (dealt_height c.loop-lane.lane (length c.args.heights.now)) found
    ∙ sym c.dealt_height.ensures)
