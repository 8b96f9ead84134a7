use Rattle.pnm_lanes.proofs.Words.{refl}
use Rattle.pnm_lanes.proofs.around.deal_and_gather.Goals as goal

pub returns-in_err-gathered : goal.returns-in_err-gathered
returns-in_err-gathered g c = rw c.from_residual.ensures (record { ran = tt; beside = tt })

pub returns-in_err-dealt : goal.returns-in_err-dealt
returns-in_err-dealt g c = rw c.from_residual-in_err-dealt.ensures (record { ran = tt; beside = tt })

pub returns-clause-ran : goal.returns-clause-ran
returns-clause-ran g c =
    let rest = rw c.in_ok-dealt.was at c.in_ok-gathered.ensures.1 in
    (rest.0, c.in_ok-gathered.ensures.0, refl)

pub returns-clause-beside : goal.returns-clause-beside
returns-clause-beside g c =
    let rest = rw c.in_ok-dealt.was at c.in_ok-gathered.ensures.1 in
    rest.1
