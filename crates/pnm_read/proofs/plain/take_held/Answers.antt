use Rattle.pnm_read.proofs.Words.{◌≡◌, ◌≤◌, ◌+◌, ℕ, length, refl, subst, ◌∙◌, arith, held_of, row_length, TakesPlain}
use Rattle.pnm_read.proofs.PlainRows.{taken_none, taken_row}
use Rattle.pnm_read.proofs.plain.take_held.Goals as goal

pub loop-count-init : goal.loop-count-init
loop-count-init g c = record { taken = taken_none c.args.shape (held_of c.args.input.now) c.args.samples.now.items; reader = refl; ended = refl }

pub loop-count-preserved : goal.loop-count-preserved
loop-count-preserved g c =
    let t = c.in-Ok.ensures.taken in
    let before : length c.loop-count.samples.items ≤ c.saturating_add-wanted.result = omega arith in
    let most : length c.take_samples.new.row.items ≤ c.saturating_add-wanted.result = c.in-Ok.ensures.most before in
    let long : length c.take_samples.new.row.items ≡ length c.loop-count.samples.items + row_length c.args.shape = omega (arith, most) in
    record {
      taken = taken_row c.loop-count.invariant.taken t c.bytes-in-loop-count.ensures c.advance.ensures.held long;
      reader = c.advance.ensures.reader ∙ c.loop-count.invariant.reader;
      ended = c.advance.ensures.ended ∙ c.loop-count.invariant.ended;
    }

pub returns-clause-taken : goal.returns-clause-taken
returns-clause-taken g c =
    subst (λ (k : ℕ). TakesPlain c.args.shape k (held_of c.args.input.now) (held_of c.loop-count.input) c.args.samples.now.items c.loop-count.samples.items)
    (omega arith) c.loop-count.invariant.taken
