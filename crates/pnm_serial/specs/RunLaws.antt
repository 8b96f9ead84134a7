-- The law of two runs over the same text and job.
use Rattle.std.specs.Prelude.{◌≡◌, ℕ, List, Result, IfOk, IfErr}
use Rattle.pnm_serial.specs.Jobs.{Job}
use Rattle.pnm_serial.specs.declared.fault.RunFault.{RunFault}
use Rattle.pnm_serial.specs.declared.summary.Summary.{Summary}
use Rattle.pnm_serial.specs.Runs.{Change}
use Rattle.pnm_serial.specs.RunFacts.{EndedWell}
use Rattle.pnm_serial.specs.Verdicts.{IsFromOutside, AnswersVerdict}

-- a run over the text and the job answers so, by the facts `well` and `verdict` of it, and not by a fault from outside
pub record IsAnswerTo (text : List ℕ) (job : Job) (answer : Result Summary RunFault) (writer : Change) : Type 0 where
  pub well : IfOk answer (EndedWell text job writer.old writer.new)
  pub verdict : AnswersVerdict text job answer
  pub inside : IfErr answer (λ fault. ¬ IsFromOutside fault)

-- two runs over the same text and job that answer so answer the same: the same fault, or both end well with the same
-- summary
abbrev pub OneAnswerForEachText : Type 0
OneAnswerForEachText = (text : List ℕ) (job : Job) (one other : Result Summary RunFault) (writer other_writer : Change)
    → IsAnswerTo text job one writer → IsAnswerTo text job other other_writer → one ≡ other
