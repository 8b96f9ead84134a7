use Rattle.pnm_lanes.proofs.Words.{◌≡◌, ◌%◌, arith, nat_tests}
use Rattle.pnm_lanes.proofs.HeightLaws.{in_round, height_by_division}
use Rattle.pnm_lanes.proofs.dealing.dealt_height.Goals as goal

pub returns-then-lane-height : goal.returns-then-lane-height
returns-then-lane-height c =
    let one : in_round c.args.lane (c.args.height % c.args.lanes) ≡ 1 = grind (arith, nat_tests, c.if-lane-height.true) in
    omega (arith, one, height_by_division c.args.lane c.args.lanes c.args.height c.requires)

pub returns-else-lane-height : goal.returns-else-lane-height
returns-else-lane-height c =
    let none : in_round c.args.lane (c.args.height % c.args.lanes) ≡ 0 = grind (arith, nat_tests, c.if-lane-height.false) in
    omega (arith, none, height_by_division c.args.lane c.args.lanes c.args.height c.requires)
