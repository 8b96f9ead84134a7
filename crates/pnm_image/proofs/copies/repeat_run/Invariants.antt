use Rattle.std.proofs.Common.{◌≡◌}
use Rattle.pnm_image.specs.Repeats.{repeated}
use Rattle.pnm_image.proofs.copies.repeat_run.Given as goal

-- the run was appended so many times
abbrev pub invariant-loop-time : goal.invariant-loop-time
invariant-loop-time g l = l.copies.items ≡ repeated l._time l.run
