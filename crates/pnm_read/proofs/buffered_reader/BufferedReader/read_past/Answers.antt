use Rattle.pnm_read.proofs.ReadSteps.{call_at_end, call_past_by}
use Rattle.pnm_read.proofs.buffered_reader.BufferedReader.read_past.Goals as goal

pub returns-then-self-clause-read_call : goal.returns-then-self-clause-read_call
returns-then-self-clause-read_call g c = call_at_end c.args.self.now c.args.target.now g.met.R.BytesIn.same_at_once c.if-self.true c.requires.held

pub returns-clause-read_call : goal.returns-clause-read_call
returns-clause-read_call g c = call_past_by c.read_into.new.target c.read_into.result c.read_into.ensures.read c.if-self.false c.read_into.ensures.end
    c.requires.held c.requires.held
