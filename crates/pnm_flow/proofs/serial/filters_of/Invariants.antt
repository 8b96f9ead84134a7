use Rattle.pnm_flow.proofs.Words.{take, AreFresh}
use Rattle.pnm_flow.proofs.serial.filters_of.Given as goal

-- the tools that were passed are stages
abbrev pub invariant-loop-tool : goal.invariant-loop-tool
invariant-loop-tool l = AreFresh l.stages.items (take l.tool-index l.tools)
