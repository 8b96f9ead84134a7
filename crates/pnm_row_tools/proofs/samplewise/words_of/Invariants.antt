use Rattle.pnm_row_tools.proofs.Words.{◌≡◌, map, range_with_len}
use Rattle.pnm_row_tools.proofs.samplewise.words_of.Given as goal

-- the samples that have passed stand in the table
abbrev pub invariant-loop-sample : goal.invariant-loop-sample
invariant-loop-sample g l = l.words.items ≡ map ((g.T.SampleTool.rule l.tool).sample l.maxval) (range_with_len 0 l.sample)
