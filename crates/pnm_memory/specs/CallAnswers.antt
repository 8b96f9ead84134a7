-- What a call reports.
use Rattle.std.specs.Prelude.{◌≡◌, ◌⊎◌, ◌<◌, ℕ, ◌==◌, Bool, true, false, if◌then◌else◌, List, [], ◌++◌, drop, length}
use Rattle.std.specs.Prelude.{Option, Some, None, Result, Ok, Err}
use Rattle.std.specs.Str.{IsUtf8}
use Rattle.pnm_image.specs.declared.format.Form.{Form}
use Rattle.pnm_image.specs.declared.format.Form.TheVariants.{Raw, Plain}
use Rattle.pnm_tools.specs.declared.tool.Tool.{Tool}
use Rattle.pnm_chain.specs.declared.chain_text.ChainFault.{ChainFault}
use Rattle.pnm_chain.specs.declared.chain_text.ChainKind.TheVariants.{Memory}
use Rattle.pnm_chain.specs.ChainText.{SpellsChain, chain_fault_of, whole_fault}
use Rattle.pnm_read.specs.declared.fault.InputFault.{InputFault}
use Rattle.pnm_read.specs.ImageEnds.{TellsEnd}
use Rattle.pnm_serial.specs.declared.fault.RunFault.{RunFault}
use Rattle.pnm_serial.specs.declared.summary.Summary.{Summary}
use Rattle.pnm_serial.specs.Jobs.{job_of}
use Rattle.pnm_memory.specs.declared.answer.Answer.{Answer}
use Rattle.pnm_memory.specs.declared.run.Made.{Made}
use Rattle.pnm_memory.specs.declared.codes.TheConstants.{WELL, BAD_FORM, BAD_TEXT, ROOM}
use Rattle.pnm_memory.specs.Codes.{chain_code, input_code, code_of, number_of}
use Rattle.pnm_memory.specs.Conversions.{HasConverted}

abbrev pub form_of : ℕ → Option Form
form_of number = if number == 0 then Some Raw else if number == 1 then Some Plain else None

-- ---- answers

-- nothing was run
abbrev pub refusal : ℕ → ℕ → Answer
refusal code number = record {
  code = code;
  reserved = 0;
  number = number;
  images = 0;
  rows = 0;
  size = 0;
  reserved_1 = 0;
  reserved_2 = 0;
}

-- a run that wrote so many bytes
abbrev pub run_answer : Result Summary RunFault → ℕ → Answer
run_answer (Ok summary) size =
    record (refusal WELL 0) { images = summary.images; rows = summary.rows; size = size }
run_answer (Err fault) size = record (refusal (code_of fault) (number_of fault)) { size = size }

-- the room was too small for what was written: no other fault gives way to that
abbrev pub without_room : Answer → Answer
without_room answer = record answer { code = if answer.code == WELL then ROOM else answer.code }

-- ---- chains

-- the text isn't UTF-8, or this is its fault as a chain's text, or memory ran out
abbrev pub IsRefusedChain : List ℕ → Answer → Type 0
IsRefusedChain chain reported = ((IsUtf8 chain → ⊥) × (reported ≡ refusal BAD_TEXT 0))
    ⊎ ((fault : ChainFault) × ((fault ≡ whole_fault Memory) ⊎ (chain_fault_of chain ≡ Some fault))
    × (reported ≡ refusal (chain_code fault.kind) fault.stage))

-- the text is a chain; or it is none, and this is reported of it
abbrev pub IsChecked : List ℕ → Answer → Type 0
IsChecked chain reported = ((reported ≡ refusal WELL 0) × ((tools : List Tool) × SpellsChain chain tools))
    ⊎ IsRefusedChain chain reported

-- no run was begun: there is no such form, or the chain is refused
abbrev pub IsRefusedCall : List ℕ → ℕ → Answer → Type 0
IsRefusedCall chain number reported = ((form_of number ≡ None) × (reported ≡ refusal BAD_FORM 0))
    ⊎ IsRefusedChain chain reported

-- the chain spells these tools, and the number means this form
pub record Asks (chain : List ℕ) (number : ℕ) (tools : List Tool) (form : Form) : Type 0 where
  pub spelled : SpellsChain chain tools
  pub asked : form_of number ≡ Some form

-- ---- results in a room

-- the bytes are at the front of the room, and the rest of it is as it was; or it is too small for them and as it was
abbrev pub IsPut : List ℕ → List ℕ → List ℕ → Bool → Type 0
IsPut bytes old new fits = (fits ≡ true → new ≡ bytes ++ drop (length bytes) old)
    × (fits ≡ false → (new ≡ old) × (length old < length bytes))

-- the tools ran over the input, and what they wrote was put into the room
pub record HasRunInto (tools : List Tool) (form : Form) (input old new : List ℕ) (reported : Answer) : Type 0 where
  pub answer : Result Summary RunFault
  pub written : List ℕ
  pub fits : Bool
  pub converted : HasConverted input (job_of tools form) answer written
  pub put : IsPut written old new fits
  pub reported_is : reported ≡ (if fits then run_answer answer (length written)
      else without_room (run_answer answer (length written)))

pub record HasRunChainInto (chain : List ℕ) (number : ℕ) (input old new : List ℕ) (reported : Answer) : Type 0 where
  pub tools : List Tool
  pub form : Form
  pub asks : Asks chain number tools form
  pub ran : HasRunInto tools form input old new reported

-- what a call reports: it was refused, and the room is as it was; or the tools ran
abbrev pub IsReported : List ℕ → ℕ → List ℕ → List ℕ → List ℕ → Answer → Type 0
IsReported chain number input old new reported = (IsRefusedCall chain number reported × (new ≡ old))
    ⊎ HasRunChainInto chain number input old new reported

-- ---- results in memory of their own

pub record HasMade (tools : List Tool) (form : Form) (input : List ℕ) (made : Made) : Type 0 where
  pub answer : Result Summary RunFault
  pub converted : HasConverted input (job_of tools form) answer made.results.items
  pub reported_is : made.answer ≡ run_answer answer (length made.results.items)

pub record HasMadeByChain (chain : List ℕ) (number : ℕ) (input : List ℕ) (made : Made) : Type 0 where
  pub tools : List Tool
  pub form : Form
  pub asks : Asks chain number tools form
  pub ran : HasMade tools form input made

-- the call was refused, and there is nothing; or the tools ran
abbrev pub IsMade : List ℕ → ℕ → List ℕ → Made → Type 0
IsMade chain number input made = (IsRefusedCall chain number made.answer × (made.results.items ≡ []))
    ⊎ HasMadeByChain chain number input made

-- ---- the end of an image

-- what is told of where the first image of a text ends, with the number of a fault
abbrev pub IsEndTold : Bool → List ℕ → Result ℕ ℕ → Type 0
IsEndTold is_first text (Ok end) = TellsEnd is_first text (Ok end)
IsEndTold is_first text (Err code) =
    (fault : InputFault) × TellsEnd is_first text (Err fault) × (code ≡ input_code fault)
