use Rattle.pnm_read.proofs.Words.{◌≤◌, All, refl, sym, subst, arith, All-nil, Words, err_from_is_err_and}
use Rattle.pnm_read.proofs.RawSteps.{units_begin, part_read, part_fault, units_read}
use Rattle.pnm_read.proofs.raw.read_words.Goals as goal

pub returns-in_err-left-clause-found : goal.returns-in_err-left-clause-found
returns-in_err-left-clause-found g c =
    let p = err_from_is_err_and c.from_residual.result c.from_residual.ensures.1 in
    rw (p.1, p.2) (part_fault c.loop-left.left c.loop-left.row.items (λ _. c.append_part.new.row.items) (λ row. row.items) c.args.shape
    g.met.R.BytesIn.same_later c.loop-left.invariant.0 c.in_err-left.ensures.found c.requires.sample_width c.units_in_row-left.ensures (omega arith))

pub loop-left-preserved : goal.loop-left-preserved
loop-left-preserved g c = (
  part_read c.loop-left.left c.loop-left.row.items (λ _. c.append_part.new.row.items) c.in_ok-left.field-0 c.append_part.new.row.items
      g.met.R.BytesIn.same_later c.loop-left.invariant.0 c.in_ok-left.ensures.found (omega arith) (λ units e. e),
  c.in_ok-left.ensures.within c.loop-left.invariant.1,
)

pub returns-clause-found : goal.returns-clause-found
returns-clause-found g c =
    units_read (λ row. row.items) c.args.shape c.loop-left.invariant.0 c.requires.sample_width c.units_in_row-left.ensures c.loop-left-test.false refl

pub loop-left-init : goal.loop-left-init
loop-left-init g c = (
  units_begin Words c.args.shape.maxval c.units_in_row-left.result c.in-Ok.row.items c.args.input.now g.met.R.BytesIn.same_at_once c.in-Ok.ensures.items,
  subst (All (λ sample. sample ≤ c.args.shape.maxval)) (sym c.in-Ok.ensures.items) (All-nil (λ sample. sample ≤ c.args.shape.maxval)),
)
