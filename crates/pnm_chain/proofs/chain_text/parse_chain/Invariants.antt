use Rattle.pnm_chain.proofs.Words.{length, stage_texts, AreRead}
use Rattle.pnm_chain.proofs.chain_text.parse_chain.Given as goal

abbrev pub invariant-loop-stage : goal.invariant-loop-stage
invariant-loop-stage l = AreRead (stage_texts l.text) (length l.yielded) l.tools.items
