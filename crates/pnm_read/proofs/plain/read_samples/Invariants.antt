use Rattle.pnm_read.proofs.Words.{◌-◌, ◌≤◌, length, vec_len}
use Rattle.pnm_read.proofs.PlainSteps.{ReadingSamples}
use Rattle.pnm_read.proofs.plain.read_samples.Given as goal

abbrev pub invariant-loop-taken : goal.invariant-loop-taken
invariant-loop-taken g l = record {
  reading : ReadingSamples g.R.BytesIn.left g.R.BytesIn.failures g.R.BytesIn.same l.shape l.length (l.length - vec_len l.row) l.row.items l.initial.input
      l.input;
  most : length l.row.items ≤ l.length;
}

abbrev pub decreases-loop-taken : goal.decreases-loop-taken
decreases-loop-taken g l = l.length - vec_len l.row
