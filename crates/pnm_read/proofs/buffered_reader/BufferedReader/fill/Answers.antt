use Rattle.pnm_read.proofs.Words.{◌≡◌, false, rules, arith, err_from_is_err_and, held_of}
use Rattle.pnm_read.proofs.ReadSteps.{fills_then, fills_not, nearer, not_enough, range_length}
use Rattle.pnm_read.proofs.buffered_reader.BufferedReader.fill.Goals as goal

pub loop-self-smaller : goal.loop-self-smaller
loop-self-smaller g c =
    let goes_on : c.loop-self.self.ended ≡ false = search rules in
    nearer (held_of c.loop-self.self) (held_of c.read_more.new.self) c.args.wanted c.loop-self.self.ended c.read_more.new.self.ended goes_on
    (omega (arith, range_length c.loop-self.self.buffer.items c.loop-self.self.at c.loop-self.self.end)) c.in_ok-read_more.ensures.more

pub loop-self-preserved : goal.loop-self-preserved
loop-self-preserved g c =
    let goes_on : c.loop-self.self.ended ≡ false = search rules in (
      fills_then g.met.R.BytesIn.same_later c.loop-self.invariant.0 c.in_ok-read_more.ensures.read_call,
      λ enough. absurd (not_enough c.args.wanted (c.loop-self.invariant.1 enough) enough goes_on
          (omega (arith, range_length c.loop-self.self.buffer.items c.loop-self.self.at c.loop-self.self.end))),
    )

pub returns-in_err-read_more-clause-read_call : goal.returns-in_err-read_more-clause-read_call
returns-in_err-read_more-clause-read_call g c =
    let p = err_from_is_err_and c.from_residual.result c.from_residual.ensures.1 in
    rw (p.1, p.2) (fills_not g.met.R.BytesIn.same_later c.loop-self.invariant.0 c.in_err-read_more.ensures.read_call)

pub read_more-requires-clause-free : goal.read_more-requires-clause-free
read_more-requires-clause-free g c = omega (arith, range_length c.loop-self.self.buffer.items c.loop-self.self.at c.loop-self.self.end)

pub returns-in_err-read_more-clause-still : goal.returns-in_err-read_more-clause-still
returns-in_err-read_more-clause-still g c =
    let goes_on : c.loop-self.self.ended ≡ false = search rules in
    λ enough. absurd (not_enough c.args.wanted (c.loop-self.invariant.1 enough) enough goes_on
    (omega (arith, range_length c.loop-self.self.buffer.items c.loop-self.self.at c.loop-self.self.end)))
