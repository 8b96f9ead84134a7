use Rattle.pnm_read.proofs.Words.{refl}
use Rattle.pnm_read.proofs.held_rows.count_within.Goals as goal

pub returns-then-are_units_within-clause-held : goal.returns-then-are_units_within-clause-held
returns-then-are_units_within-clause-held c = λ some. record {
  fits = c.if-not-fits_bytes.ensures refl;
  long = c.loop-count.invariant.1;
  within = c.if-are_units_within.ensures.0 refl;
}
