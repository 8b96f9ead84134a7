use Rattle.pnm_read.proofs.Words.{◌≡◌, held_of, TakesPlain}
use Rattle.pnm_read.proofs.plain.take_held.Given as goal

-- so many rows were taken of what was held
abbrev pub invariant-loop-count : goal.invariant-loop-count
invariant-loop-count g l = record {
  taken : TakesPlain l.shape l.count (held_of l.initial.input) (held_of l.input) l.initial.samples.items l.samples.items;
  reader : l.input.reader ≡ l.initial.input.reader;
  ended : l.input.ended ≡ l.initial.input.ended;
}
