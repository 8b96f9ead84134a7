-- Between functions: what lanes make of images together: streams, results and what is due, dealt and gathered again.
use Rattle.std.specs.Prelude.{ℕ, Result, Ok, Err}
use Rattle.pnm_image.specs.Heads.{HeadValue}
use Rattle.pnm_tools.specs.declared.fault.ToolFault.{ToolFault}
use Rattle.pnm_tools.specs.Dealing.{dealt_head}

-- what a lane sees of the head of a result, or the same refusal
abbrev pub dealt_head_result : ℕ → ℕ → Result HeadValue ToolFault → Result HeadValue ToolFault
dealt_head_result lane lanes (Ok head) = Ok (dealt_head lane lanes head)
dealt_head_result lane lanes (Err fault) = Err fault
