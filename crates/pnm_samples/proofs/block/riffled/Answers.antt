use Rattle.pnm_samples.proofs.Words.{refl, arith}
use Rattle.pnm_samples.proofs.SquareLaws.{high_lane, low_lane, riffled_more}
use Rattle.pnm_samples.proofs.block.riffled.Goals as goal

pub loop-i-preserved : goal.loop-i-preserved
loop-i-preserved c =
    let i = c.loop-i.i in
    let rows = c.args.rows in
    let long = c.requires.each i (omega arith) in
    riffled_more _ _ (omega arith) refl refl (λ k lt. low_lane rows i k long lt) (λ k lt. high_lane rows i k long lt) c.loop-i.invariant
