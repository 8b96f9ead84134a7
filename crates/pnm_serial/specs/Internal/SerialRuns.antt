-- Between functions: what a run in one thread answers, reads and writes besides.
use Rattle.std.specs.Prelude.{ℕ, List, Option, Some, None, Result, Ok, Err}
use Rattle.pnm_read.specs.declared.fault.InputFault.{InputFault}
use Rattle.pnm_tools.specs.declared.fault.ToolFault.{ToolFault}
use Rattle.pnm_tools.specs.ChainAnswers.{AreWell, IsFirstFault}
use Rattle.pnm_write.specs.declared.fault.SinkFault.{SinkFault}
use Rattle.pnm_serial.specs.declared.fault.RunFault.{RunFault}
use Rattle.pnm_serial.specs.declared.fault.RunFault.TheVariants.{Input, Tool as OfTool, Output}
use Rattle.pnm_serial.specs.declared.summary.Summary.{Summary}

-- ---- the answer

-- the fault of the input comes before that of a tool, and this before the output's
abbrev pub answer_by : Result (Unit {0}) InputFault → Option (ℕ × ToolFault) → Result Summary SinkFault
    → Result Summary RunFault
answer_by (Err fault) refused output = Err (Input fault)
answer_by (Ok _) (Some found) output = Err (OfTool found.0 found.1)
answer_by (Ok _) None (Err fault) = Err (Output fault)
answer_by (Ok _) None (Ok summary) = Ok summary

-- the first stage that has refused, by its number, and why; or none has
abbrev pub IsFirstRefusal : List (Option ToolFault) → Option (ℕ × ToolFault) → Type 0
IsFirstRefusal faults None = AreWell faults
IsFirstRefusal faults (Some found) = IsFirstFault 1 faults found.0 found.1
