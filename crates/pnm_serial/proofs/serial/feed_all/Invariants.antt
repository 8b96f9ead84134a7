use Rattle.pnm_serial.proofs.Words.{reader_of, output_of}
use Rattle.pnm_serial.proofs.FeedingSteps.{Going}
use Rattle.pnm_serial.proofs.serial.feed_all.Given as goal

-- what has passed so far: a packet an iteration
abbrev pub invariant-loop : goal.invariant-loop
invariant-loop g l =
    Going g.R.BytesIn.left g.R.BytesIn.failures g.F.Filter.at g.F.Filter.all_given g.F.Filter.stopped g.W.BytesOut.held g.W.BytesOut.failures l.initial.source
    l.source l.initial.stages l.stages l.initial.fused_sink l.fused_sink l.counter
    × g.R.BytesIn.same (reader_of l.initial.source) (reader_of l.source)
    × g.W.BytesOut.same (output_of l.initial.fused_sink) (output_of l.fused_sink)
