use Rattle.pnm_read.proofs.Words.{List, ℕ, Result, subst, arith, IfOk, InputFault, plain_pixel, plain_decimal, TakesSamples}
use Rattle.pnm_read.proofs.LeadingLaws.{number_by_kind, all_taken}
use Rattle.pnm_read.proofs.leading.take_samples.Goals as goal

pub returns-in-Bit-clause-taken : goal.returns-in-Bit-clause-taken
returns-in-Bit-clause-taken c =
    rw c.in-Bit.is (all_taken plain_pixel c.min.result c.args.bytes.now c.args.row.now.items c.take_pixels.new.row.items c.take_pixels.result (omega arith)
    c.take_pixels.ensures.taken)

pub returns-in-Gray-clause-taken : goal.returns-in-Gray-clause-taken
returns-in-Gray-clause-taken c =
    subst (λ (item : List ℕ → Result (ℕ × List ℕ) InputFault). IfOk c.take_numbers.result
    (TakesSamples item c.args.bytes.now c.args.row.now.items c.take_numbers.new.row.items))
    (number_by_kind c.args.shape.kind c.args.shape.maxval c.in-Gray.is)
    (all_taken (plain_decimal c.args.shape.maxval) c.min.result c.args.bytes.now c.args.row.now.items c.take_numbers.new.row.items c.take_numbers.result
    (omega arith) c.take_numbers.ensures.taken)
