use Rattle.pnm_samples.proofs.Words.{arith}
use Rattle.pnm_samples.proofs.PixelLaws.{byte_of_two, byte_of_last}
use Rattle.pnm_samples.proofs.bits.byte_after.Goals.{then-at-bytes, else-at-bytes}
use Rattle.pnm_samples.proofs.bits.byte_after.Goals as goal

pub returns : goal.returns
returns c n le within = elim c.if-at-bytes.branch [
  | then-at-bytes w ↦ byte_of_two c.args.bytes.now c.args.skipped c.window.result n w.if-at-bytes.true w.low-is c.window.ensures le
  | else-at-bytes w ↦ byte_of_last c.args.bytes.now c.args.skipped c.if-at-bytes.low c.window.result n (omega (arith, w.if-at-bytes.false)) c.window.ensures
      within
]
