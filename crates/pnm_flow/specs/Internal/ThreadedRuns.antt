-- Between functions: what a run over threads answers, by how its tools and its caller have ended.
use Rattle.std.specs.Prelude.{ℕ, Bool, true, false, Option, Some, None, Result, Ok, Err}
use Rattle.pnm_read.specs.declared.fault.InputFault.{InputFault}
use Rattle.pnm_write.specs.declared.fault.SinkFault.{SinkFault}
use Rattle.pnm_serial.specs.declared.fault.RunFault.{RunFault}
use Rattle.pnm_serial.specs.declared.fault.RunFault.TheVariants.{Input, Output}
use Rattle.pnm_serial.specs.declared.fault.RunFault.TheVariants.{PeerGone as Gone}
use Rattle.pnm_serial.specs.declared.summary.Summary.{Summary}

-- The fault of the input comes first, then that the ring before the first tool lost its other end, then the first fault
-- of the tools, then that the ring behind the last one lost its other end, then the output's.
abbrev pub answer_over : Option (Result (Unit {0}) InputFault) → Option RunFault → Bool → ℕ → Result Summary SinkFault
    → Result Summary RunFault
answer_over None found has_ended behind output = Err (Gone 0)
answer_over (Some (Err fault)) found has_ended behind output = Err (Input fault)
answer_over (Some (Ok _)) (Some fault) has_ended behind output = Err fault
answer_over (Some (Ok _)) None false behind output = Err (Gone behind)
answer_over (Some (Ok _)) None true behind (Err fault) = Err (Output fault)
answer_over (Some (Ok _)) None true behind (Ok summary) = Ok summary
