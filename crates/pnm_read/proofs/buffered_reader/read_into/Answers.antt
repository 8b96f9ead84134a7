use Rattle.pnm_read.proofs.Words.{[], refl, Consumes-kept, fails}
use Rattle.pnm_read.proofs.Consumed.{consumes_nothing}
use Rattle.pnm_read.proofs.buffered_reader.read_into.Goals as goal

pub returns-in-Ok-clause-end : goal.returns-in-Ok-clause-end
returns-in-Ok-clause-end g c = refl

pub returns-in-Err-clause-read : goal.returns-in-Err-clause-read
returns-in-Err-clause-read g c =
    let left = g.R.BytesIn.left in let before = g.R.BytesIn.failures c.args.reader.now in (
      Consumes-kept (left c.args.reader.now) (left c.args.reader.now) (left c.read.new.self) [] (consumes_nothing (left c.args.reader.now))
          c.in-Err.ensures.bytes,
      refl,
      fails before before (g.R.BytesIn.failures c.read.new.self) refl c.in-Err.ensures.count,
      c.in-Err.ensures.same_device,
    )

pub returns-in-Err-clause-end : goal.returns-in-Err-clause-end
returns-in-Err-clause-end g c = c.requires.goes_on
