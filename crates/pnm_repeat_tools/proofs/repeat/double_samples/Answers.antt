use Rattle.pnm_repeat_tools.proofs.Words.{arith, common_steps}
use Rattle.pnm_repeat_tools.proofs.EnlargeRowLaws.{doubled_more}
use Rattle.pnm_repeat_tools.proofs.repeat.double_samples.Goals as goal

pub loop-i-preserved : goal.loop-i-preserved
loop-i-preserved g c = doubled_more c.args.row.now c.loop-i.buffer c.loop-i.i _ _ c.loop-i.invariant c.loop-i-test.true (omega arith)
    (omega arith) (omega arith) c.index-row-i.is

pub offset_bounds-buffer-i : goal.offset_bounds-buffer-i
offset_bounds-buffer-i g c = grind (arith, common_steps)

pub offset_bounds-buffer-i-in-loop-i : goal.offset_bounds-buffer-i-in-loop-i
offset_bounds-buffer-i-in-loop-i g c = grind (arith, common_steps)
