use Rattle.pnm_chain.proofs.Words.{◌≡◌, arith, common_steps, has_three}
use Rattle.pnm_chain.proofs.settings.has_three.Goals as goal

pub returns-then-across : goal.returns-then-across
returns-then-across c =
    let across : c.if-is_some-2.across ≡ has_three c.args.cut.now = grind (arith, common_steps) in across
