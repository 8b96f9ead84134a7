use Rattle.pnm_flow.proofs.Words.{rules, [], inl, inr, refl, job_of, change}
use Rattle.pnm_flow.proofs.ThreadedAnswerSteps.{unread_has_run}
use Rattle.pnm_flow.proofs.threaded.run.Goals as goal

-- there is no memory to read
pub returns-in-Err-clause-ran : goal.returns-in-Err-clause-ran
returns-in-Err-clause-ran g c =
    let reader = c.args.reader.now in
    let writer = c.args.writer.now in
    rw c.in-Err.ensures.refused
    (inr (unread_has_run c.args.lanes (job_of c.args.tools.now c.args.form) (change g.R.BytesIn.left g.R.BytesIn.failures reader reader)
    (change g.W.BytesOut.held g.W.BytesOut.failures writer writer) refl refl refl))

pub returns-in-Err-clause-same_reader : goal.returns-in-Err-clause-same_reader
returns-in-Err-clause-same_reader g c = λ differs. g.met.R.BytesIn.same_at_once c.args.reader.now

pub returns-in-Err-clause-same_writer : goal.returns-in-Err-clause-same_writer
returns-in-Err-clause-same_writer g c = λ differs. g.met.W.BytesOut.same_at_once c.args.writer.now

pub conclude-read-requires-clause-taken : goal.conclude-read-requires-clause-taken
conclude-read-requires-clause-taken g c =
    (_, _, c.in-Some.ensures.stepped.receiving _ _ [] (rw c.in-Some-Some.ensures'.unused.1 at c.new-egress.ensures.receiving))

pub returns-clause-same_writer : goal.returns-clause-same_writer
returns-clause-same_writer g c =
    let same = g.met.W.BytesOut.same_later _ _ _ (rw c.new-egress.ensures.parts.1 at c.in-Some.ensures.stepped.writer).1
    c.conclude-read.ensures.same_writer.1 in
    search rules

pub returns-clause-ran : goal.returns-clause-ran
returns-clause-ran g c =
    let job = job_of c.args.tools.now c.args.form in
    let sending = c.in-Some.ensures.stepped.sending _ [] (rw c.in-Some-Some.ensures.unused.0 at c.new-ingress.ensures.sending) in
    let receiving = c.in-Some.ensures.stepped.receiving _ _ [] (rw c.in-Some-Some.ensures'.unused.1 at c.new-egress.ensures.receiving) in
    let chain = rw (c.in-Some-Some.ensures.unused.1, c.set_home.ensures.sent, c.in-Some-Some.ensures'.unused.0) at c.in-Some.ensures.ran in
    let ran = c.conclude-read.ensures.ran _ _ c.args.lanes job c.requires.chain.lawful sending receiving chain in
    inr (search rules)

-- the chain isn't started
pub returns-in_default-both-clause-ran : goal.returns-in_default-both-clause-ran
returns-in_default-both-clause-ran g c = inl refl

pub returns-in_default-both-clause-same_reader : goal.returns-in_default-both-clause-same_reader
returns-in_default-both-clause-same_reader g c = λ differs. absurd (differs refl)

pub returns-in_default-both-clause-same_writer : goal.returns-in_default-both-clause-same_writer
returns-in_default-both-clause-same_writer g c = λ differs. absurd (differs refl)

-- there is no memory for a ring
pub returns-in_default : goal.returns-in_default
returns-in_default g c = record {
  ran = inl refl;
  same_reader = λ differs. absurd (differs refl);
  same_writer = λ differs. absurd (differs refl);
}
