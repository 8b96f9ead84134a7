use Rattle.pnm_lanes.proofs.Words.{◌≡◌, ◌+◌, ◌<◌, ℕ, length, drop, set, sym, ap, ◌∙◌, arith, le_refl, length-set, at_lane, in_held}
use Rattle.pnm_lanes.proofs.LaneLists.{at_lane-get, at_lane-set, at_lane-others}
use Rattle.pnm_lanes.proofs.TakenParts.{by_lane}
use Rattle.pnm_lanes.proofs.together.pass_each.Goals as goal

pub loop-lane-preserved : goal.loop-lane-preserved
loop-lane-preserved c =
    let held = c.loop-lane.held in
    let lane : ℕ = c.loop-lane.lane in
    let new = c.pass.new.self in
    let within : lane < length held = omega (arith, c.loop-lane-test.true, c.loop-lane.invariant.2) in (
      λ other below. by_lane (λ (l : ℕ). l < lane + 1 → at_lane in_held (set held lane new) l ≡ drop 1 (at_lane in_held c.args.held.now l)) lane other
          (λ b. at_lane-set in_held held lane new within ∙ c.pass.ensures
          ∙ ap (drop 1) (sym (at_lane-get in_held held lane c.index-held-lane.result within) ∙ c.loop-lane.invariant.1 lane (le_refl lane)))
          (λ differ b. at_lane-others in_held held lane new other differ ∙ c.loop-lane.invariant.0 other (omega (arith, b, differ))) below,
      λ other reached. at_lane-others in_held held lane new other (λ e. absurd (omega (arith, e, reached)))
          ∙ c.loop-lane.invariant.1 other (omega (arith, reached)),
      length-set held lane new ∙ c.loop-lane.invariant.2,
    )
