use Rattle.pnm_samples.proofs.Words.{◌-◌, length, arith}
use Rattle.pnm_samples.proofs.MirrorLaws.{moved_step, kept_after, moved_last, moved_none}
use Rattle.pnm_samples.proofs.bits.mirror.move_to_end.Goals as goal

pub loop-i-preserved : goal.loop-i-preserved
loop-i-preserved c = (
  moved_step c.loop-i.bytes c.args.bytes.now c.loop-i.i c.args.skipped c.window.result (omega arith) (omega arith) c.requires c.loop-i.invariant.0
      c.loop-i.invariant.1 c.window.ensures,
  kept_after c.loop-i.bytes c.args.bytes.now c.loop-i.i c.window.result c.loop-i.invariant.1,
)

pub returns-after-loop-i : goal.returns-after-loop-i
returns-after-loop-i c = moved_last c.loop-i.bytes c.args.bytes.now (length c.args.bytes.now - 1) c.loop-i.i c.args.skipped c.window-then-count-gt0.result
    (omega arith) c.requires (omega arith) (omega arith) c.loop-i.invariant.0 c.loop-i.invariant.1 c.window-then-count-gt0.ensures

pub returns-else-count-gt0 : goal.returns-else-count-gt0
returns-else-count-gt0 c = moved_none c.args.bytes.now c.args.skipped (omega arith)
