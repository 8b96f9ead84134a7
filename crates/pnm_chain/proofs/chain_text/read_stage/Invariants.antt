use Rattle.pnm_chain.proofs.Words.{length, words, items_of, IsReading}
use Rattle.pnm_chain.proofs.chain_text.read_stage.Given as goal

abbrev pub invariant-loop-item : goal.invariant-loop-item
invariant-loop-item l = IsReading l.tool (items_of l.tool (words l.initial.rest)) l.settings l.rest

abbrev pub decreases-loop-item : goal.decreases-loop-item
decreases-loop-item l = length l.rest
