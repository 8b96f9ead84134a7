-- What a call reports to C.
use Rattle.std.specs.Prelude.{◌≡◌, ◌⊎◌, ℕ, ◌==◌, not, List, Ok, Err}
use Rattle.pnm_memory.specs.declared.answer.Answer.{Answer}
use Rattle.pnm_memory.specs.declared.run.Made.{Made}
use Rattle.pnm_memory.specs.CallAnswers.{IsChecked, IsMade, IsEndTold}
use Rattle.pnm_memory.specs.declared.codes.TheConstants.{WELL}
use Rattle.pnm_c.specs.declared.bytes.Bytes.{Bytes}
use Rattle.pnm_c.specs.HandedOut.{IsHandedOut}

-- the code and the stage are those that are reported of the chain's text
pub record IsCodeOf (chain : List ℕ) (code stage : ℕ) : Type 0 where
  pub reported : Answer
  pub checked : IsChecked chain reported
  pub code_is : code ≡ reported.code
  pub stage_is : stage ≡ reported.number

-- the answer, and the length of the results, are those of a call; nothing is said of what lies at the pointer
pub record IsReportedNew (chain : List ℕ) (number : ℕ) (input : List ℕ) (bytes : Bytes) (reported : Answer) : Type 0
  where
    pub made : Made
    pub is_made : IsMade chain number input made
    pub handed : IsHandedOut made.results bytes
    pub reported_is : reported ≡ made.answer

-- what is told of the end of the first image: where that is, with the code of no fault, or the code of its fault
abbrev pub IsReportedEnd : List ℕ → ℕ → ℕ → ℕ → Type 0
IsReportedEnd text number code end = ((code ≡ WELL) × IsEndTold (not (number == 0)) text (Ok end))
    ⊎ IsEndTold (not (number == 0)) text (Err code)
