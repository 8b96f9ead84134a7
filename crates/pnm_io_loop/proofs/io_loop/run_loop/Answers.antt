use Rattle.pnm_io_loop.proofs.Words.{sym, ◌∙◌}
use Rattle.pnm_io_loop.proofs.IoLoopSteps.{stepped_on}
use Rattle.pnm_io_loop.proofs.io_loop.run_loop.Goals as goal

pub loop-preserved-then-not-run_once : goal.loop-preserved-then-not-run_once
loop-preserved-then-not-run_once g c =
    let told = stepped_on (λ a b d. g.met.R.BytesIn.same_later a b d) (λ a b d. g.met.W.BytesOut.same_later a b d) c.loop.invariant
    c.wake_before_taking-takes_first.ensures.stepped in
    let stepped = stepped_on (λ a b d. g.met.R.BytesIn.same_later a b d) (λ a b d. g.met.W.BytesOut.same_later a b d) told c.run_once.ensures.stepped in
    stepped_on (λ a b d. g.met.R.BytesIn.same_later a b d) (λ a b d. g.met.W.BytesOut.same_later a b d) stepped c.wait.ensures.stepped

pub loop-preserved : goal.loop-preserved
loop-preserved g c =
    let told = stepped_on (λ a b d. g.met.R.BytesIn.same_later a b d) (λ a b d. g.met.W.BytesOut.same_later a b d) c.loop.invariant
    c.wake_before_taking-takes_first.ensures.stepped in
    stepped_on (λ a b d. g.met.R.BytesIn.same_later a b d) (λ a b d. g.met.W.BytesOut.same_later a b d) told c.run_once.ensures.stepped

pub returns-then-is_over-2-clause-over : goal.returns-then-is_over-2-clause-over
returns-then-is_over-2-clause-over g c =
    (sym c.is_over.ensures ∙ c.if-is_over.true, sym c.is_over-then-is_over.ensures ∙ c.if-is_over-2.true)
