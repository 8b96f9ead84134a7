use Rattle.pnm_repeat_tools.proofs.Words.{◌≡◌, ◌++◌, copies_of}
use Rattle.pnm_repeat_tools.proofs.EnlargeRowLaws.{columns_repeated}
use Rattle.pnm_repeat_tools.proofs.repeat.repeat_runs.Given as goal

-- the runs that have passed were repeated
abbrev pub invariant-loop-run : goal.invariant-loop-run
invariant-loop-run g l = l.repeated.items ≡ columns_repeated l.fn.times l.fn.each l.samples l.run

-- the run was appended so many times
abbrev pub invariant-loop : goal.invariant-loop
invariant-loop g l = l.repeated.items ≡ l.initial.repeated.items ++ copies_of l.counter l.copied
