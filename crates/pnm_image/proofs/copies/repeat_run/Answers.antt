use Rattle.pnm_image.proofs.CopyLaws.{one_copy_more}
use Rattle.pnm_image.proofs.copies.repeat_run.Goals as goal

pub loop-time-preserved : goal.loop-time-preserved
loop-time-preserved g c =
    one_copy_more c.loop-time._time c.args.run.now c.loop-time.copies.items c.extend_from_slice.new.self.items c.loop-time.invariant
    c.in_ok-extend_from_slice.ensures.items
