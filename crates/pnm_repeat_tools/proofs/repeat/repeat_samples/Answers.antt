use Rattle.pnm_repeat_tools.proofs.Words.{◌∙◌}
use Rattle.pnm_repeat_tools.proofs.CopyLaws.{sample_repeated}
use Rattle.pnm_repeat_tools.proofs.repeat.repeat_samples.Goals as goal

pub loop-i-preserved : goal.loop-i-preserved
loop-i-preserved g c =
    record {
      prefix = sample_repeated c.args.across c.loop-i.i c.args.row.now c.loop-i.buffer c.put_copies.new.buffer c.loop-i.invariant.prefix
          c.loop-i-test.true c.index-row-i.is c.put_copies.ensures.stored;
      size = c.put_copies.ensures.long ∙ c.loop-i.invariant.size;
    }
