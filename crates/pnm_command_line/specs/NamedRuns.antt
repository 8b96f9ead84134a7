-- The run that the words of the command line name.
use Rattle.std.specs.Prelude.{◌≡◌, ◌⊎◌, ℕ, List, Option, Result, Ok, Err}
use Rattle.std.specs.Io.KnownBytes.{Keeps}
use Rattle.pnm_image.specs.declared.format.Form.{Form}
use Rattle.pnm_tools.specs.declared.tool.Tool.{Tool}
use Rattle.pnm_chain.specs.ChainText.{SpellsChain}
use Rattle.pnm_command_line.specs.CommandLine.{Text, GivesChain, GivesForm, GivesLanes}
use Rattle.pnm_serial.specs.Jobs.{Job, job_of}
use Rattle.pnm_serial.specs.Runs.{Change}
use Rattle.pnm_serial.specs.declared.fault.RunFault.{RunFault}
use Rattle.pnm_serial.specs.declared.summary.Summary.{Summary}

-- what is known of a run: over so many lanes, of this job, by its answer and what it read and wrote
abbrev pub RunRelation : Type 1
RunRelation = ℕ → Job → Result Summary RunFault → Change → Change → Type 0

-- the status of a run by its answer
abbrev pub status_of : Result Summary RunFault → ℕ
status_of (Ok summary) = 0
status_of (Err fault) = 1

-- a run that does this job, of whose tools each row-wise one has so many lanes, which gave the status by its answer
pub record HasRunTools (has_run : RunRelation) (lanes : ℕ) (job : Job) (status : ℕ) (reader writer : Change)
    : Type 0 where
  pub answer : Result Summary RunFault
  pub status_is : status ≡ status_of answer
  pub ran : has_run lanes job answer reader writer

-- the known bytes of a stream, before and after: what a reader still gives, or what a writer was given
pub record Known : Type 0 where
  pub old : Option (List ℕ)
  pub new : Option (List ℕ)

abbrev pub known : Option (List ℕ) → Option (List ℕ) → Known
known old new = record { old = old; new = new }

-- a device over that stream, with so many failed calls since
abbrev pub as_device : Known → ℕ → Change
as_device bytes failures = record { old = bytes.old; new = bytes.new; failures_old = 0; failures_new = failures }

-- Such a run over streams. What the writer was given is what it has taken and what was kept back before it. The status
-- is that of the run; or it is 1 since the last bytes of a run that ended well couldn't be written.
pub record HasRunOverStreams (has_run : RunRelation) (lanes : ℕ) (job : Job) (status : ℕ) (input output : Known)
    : Type 0 where
  pub ended : ℕ
  pub failed_reads : ℕ
  pub failed_writes : ℕ
  pub given : Option (List ℕ)
  pub run : HasRunTools has_run lanes job ended (as_device input failed_reads)
      (as_device (known output.old given) failed_writes)
  pub kept : Keeps given output.new
  pub status_is : (status ≡ ended) ⊎ ((ended ≡ 0) × (status ≡ 1))

-- the words give a chain, a number of lanes and a form, the chain spells tools, and a run over these in that form ended
pub record HasRunWords (has_run : RunRelation) (words : List Text) (status : ℕ) (input output : Known) : Type 0 where
  pub chain : Text
  pub tools : List Tool
  pub lanes : ℕ
  pub form : Form
  pub given : GivesChain words chain
  pub lanes_given : GivesLanes words lanes
  pub form_given : GivesForm words form
  pub spelled : SpellsChain chain tools
  pub run : HasRunOverStreams has_run lanes (job_of tools form) status input output
