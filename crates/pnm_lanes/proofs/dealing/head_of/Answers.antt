use Rattle.pnm_lanes.proofs.Words.{◌≡◌, ap, arith, Shape, dealt_height, dealt_height_within}
use Rattle.pnm_lanes.proofs.dealing.head_of.Goals as goal

pub with_height-requires : goal.with_height-requires
with_height-requires c =
    let height = c.shape.result.height in
    let part : c.dealt_height-height.result ≡ dealt_height c.args.lane c.args.lanes height = c.dealt_height-height.ensures in
    let same : height ≡ c.in-Some.head.shape.height = ap (λ (s : Shape). s.height) c.shape.ensures.shape in
    omega (arith, part, same, c.shape.ensures.sound.limits.height_high, dealt_height_within c.args.lane c.args.lanes height)
