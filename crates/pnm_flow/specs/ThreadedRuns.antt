-- What a run over threads answers, by how its tools and its caller have ended.
use Rattle.std.specs.Prelude.{ℕ, ◌+◌, List, [], ◌∷◌, Option, Some, None}
use Rattle.pnm_serial.specs.declared.fault.RunFault.{RunFault}
use Rattle.pnm_serial.specs.declared.fault.RunFault.TheVariants.{Tool as OfTool}
use Rattle.pnm_serial.specs.declared.fault.RunFault.TheVariants.{PeerGone as Gone}
use Rattle.pnm_stages.specs.declared.stage.StageEnd.{StageEnd}
use Rattle.pnm_stages.specs.declared.stage.StageEnd.TheVariants.{Well, Broken, Fault, PeerGone}

-- what the end of the stage of this number is answered by
abbrev pub fault_of_end : ℕ → StageEnd → Option RunFault
fault_of_end number Well = None
fault_of_end number Broken = None
fault_of_end number (Fault fault) = Some (OfTool number fault)
fault_of_end number PeerGone = Some (Gone number)

-- the first of those of stages, whose numbers begin here
abbrev pub first_fault_from : ℕ → List StageEnd → Option RunFault
first_fault_from number [] = None
first_fault_from number (end ∷ ends) = elim (fault_of_end number end) [
  | Some fault ↦ Some fault
  | None ↦ first_fault_from (number + 1) ends
]
