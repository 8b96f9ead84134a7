-- What a run of the program tells, which follows of `HasRunWords` and of what `OverThreads` promises.
use Rattle.std.specs.Prelude.{◌≡◌, ◌≢◌, ◌⊎◌, List, ℕ, Some, Err}
use Rattle.pnm_image.specs.declared.format.Form.{Form}
use Rattle.pnm_tools.specs.declared.tool.Tool.{Tool}
use Rattle.pnm_chain.specs.ChainText.{SpellsChain}
use Rattle.pnm_serial.specs.Jobs.{job_of}
use Rattle.pnm_serial.specs.RunFacts.{EndedWell, IsPrefixOfBytesDue}
use Rattle.pnm_serial.specs.Runs.{HasRun}
use Rattle.pnm_serial.specs.declared.fault.RunFault.TheVariants.{NoStart}
use Rattle.pnm_serial.specs.declared.summary.Summary.{Summary}
use Rattle.pnm_command_line.specs.CommandLine.{Text, GivesChain, GivesForm}
use Rattle.pnm_command_line.specs.NamedRuns.{HasRunWords, Known, RunRelation}

-- what is promised of a run over threads: it couldn't be started, or all that is promised of it holds
abbrev pub over_threads : RunRelation
over_threads lanes job answer reader writer = (answer ≡ Err NoStart) ⊎ HasRun lanes ⊥ job answer reader writer

-- the words give a chain and a form, the text spells images, no tool of the chain refuses one of them, the form can
-- hold their results, and the output was given the encoding of these
pub record HasWrittenAll (words : List Text) (text : List ℕ) (output : Known) : Type 0 where
  pub chain : Text
  pub tools : List Tool
  pub form : Form
  pub summary : Summary
  pub given : GivesChain words chain
  pub form_given : GivesForm words form
  pub spelled : SpellsChain chain tools
  pub ended : EndedWell text (job_of tools form) output.old output.new summary

abbrev pub Status0IsAllWritten : Type 0
Status0IsAllWritten = (words : List Text) (input output : Known) (text : List ℕ) → input.old ≡ Some text
    → HasRunWords over_threads words 0 input output → HasWrittenAll words text output

-- whatever the status is, the output was given a prefix of what is due, unless the run couldn't be started
abbrev pub GivenIsDue : Type 0
GivenIsDue = (words : List Text) (status : ℕ) (input output : Known) (text : List ℕ) → input.old ≡ Some text
    → (ran : HasRunWords over_threads words status input output) → ran.run.run.answer ≢ Err NoStart
    → IsPrefixOfBytesDue text (job_of ran.tools ran.form) output.old output.new
