use Rattle.pnm_chain.proofs.Words.{◌≡◌, get_or, arith}
use Rattle.pnm_chain.proofs.NumberLaws.{dashed}
use Rattle.pnm_chain.proofs.word.offset.Goals as goal

pub returns-in_ok-number-in-45 : goal.returns-in_ok-number-in-45
returns-in_ok-number-in-45 c =
    let dash : get_or c.args.word.now 0 0 ≡ 45 = omega arith in
    dashed c.args.word.now c.in_ok-number-in-45.field-0 (omega arith) dash c.in_ok-number-in-45.ensures
