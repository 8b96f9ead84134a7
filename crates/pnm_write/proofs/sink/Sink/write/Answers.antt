use Rattle.pnm_write.proofs.Words.{Some, None, Option, List, ℕ, refl, Keeps, messages_in}
use Rattle.pnm_write.proofs.MessageLaws.{refused_with}
use Rattle.pnm_write.proofs.sink.Sink.write.Goals as goal

-- what stays is kept
keeps : (bytes : Option (List ℕ)) → Keeps bytes bytes
keeps None = tt
keeps (Some bytes) = refl

pub returns-clause-taken : goal.returns-clause-taken
returns-clause-taken g c =
    let begun = c.in-Ok.ensures.begun in
    (((c.in-Some.ensures.0, begun.0), begun.1), c.if-self.false, c.in-Some.ensures.1, begun.2)

pub returns-in-Err-clause-refused : goal.returns-in-Err-clause-refused
returns-in-Err-clause-refused g c =
    let found = c.in-Err.ensures.refused in
    let sink = c.args.self.now in
    λ sound. refused_with sink.form sink.has_begun sink.place (messages_in c.args.packet.now) c.in-Err.fault found.0 (g.W.BytesOut.held sink.writer)
    (g.W.BytesOut.failures sink.writer) found.1 found.2 c.in-Some.ensures.0 (keeps (g.W.BytesOut.held sink.writer))

-- after a failed write nothing is said of what is written where all is well
pub returns-then-is_err-clause-written : goal.returns-then-is_err-clause-written
returns-then-is_err-clause-written g c = assumption

pub returns-then-is_err-clause-taken : goal.returns-then-is_err-clause-taken
returns-then-is_err-clause-taken g c = assumption

pub returns-then-is_err-clause-count : goal.returns-then-is_err-clause-count
returns-then-is_err-clause-count g c = assumption
