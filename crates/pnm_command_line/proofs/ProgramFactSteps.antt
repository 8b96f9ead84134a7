-- A run of the program with status 0 has written all, and any other a prefix of that.
use Rattle.std.proofs.Common.{◌≡◌, ◌⊎◌, ◌≢◌, inl, inr, ℕ, List, Option, Some, Result, Ok, Err, take, refl, sym, subst, ◌∙◌, arith}
use Rattle.std.specs.Io.KnownBytes.{Keeps}
use Rattle.pnm_write.specs.Encoding.{encoding_of}
use Rattle.pnm_tools.specs.Chains.{AreLawfulTools}
use Rattle.pnm_chain.proofs.LawfulLaws.{spelled_chain_is_lawful}
use Rattle.pnm_serial.specs.Jobs.{Job, bytes_due, job_of}
use Rattle.pnm_serial.specs.RunFacts.{EndedWell, IsPrefixOfBytesDue}
use Rattle.pnm_serial.specs.Runs.{Change}
use Rattle.pnm_serial.specs.declared.fault.RunFault.{RunFault}
use Rattle.pnm_serial.specs.declared.fault.RunFault.TheVariants.{NoStart}
use Rattle.pnm_serial.specs.declared.summary.Summary.{Summary}
use Rattle.pnm_serial.proofs.RunFactSteps.{run_tells}
use Rattle.pnm_command_line.specs.NamedRuns.{status_of}
use Rattle.pnm_command_line.specs.ProgramFacts.{GivenIsDue, Status0IsAllWritten, over_threads}
use Rattle.pnm_command_line.proofs.HelpSteps.{flushed_whole}

-- what was given to the output was kept
kept_whole : (text : List ℕ) (job : Job) (old given new : Option (List ℕ)) (summary : Summary) → EndedWell text job old given summary → Keeps given new
    → EndedWell text job old new summary
kept_whole text job old given new summary ended kept = record {
  images = ended.images;
  results = ended.results;
  said = ended.said;
  output = record {
    made = ended.output.made;
    fit = ended.output.fit;
    written = flushed_whole old given new (encoding_of job.form ended.results) ended.output.written kept;
  };
  counts = ended.counts;
}

abbrev is_well : Result Summary RunFault → Type 0
is_well (Ok summary) = Unit {0}
is_well (Err fault) = ⊥

ended_well : (lanes : ℕ) (job : Job) (answer : Result Summary RunFault) (reader writer : Change) (text : List ℕ) → AreLawfulTools job.tools
    → reader.old ≡ Some text → 0 ≡ status_of answer → over_threads lanes job answer reader writer
    → (summary : Summary) × EndedWell text job writer.old writer.new summary
ended_well lanes job (Err fault) reader writer text lawful known status ran = absurd (omega (arith, status))
ended_well lanes job (Ok summary) reader writer text lawful known status (inl unstarted) = absurd (subst is_well unstarted tt)
ended_well lanes job (Ok summary) reader writer text lawful known status (inr ran) =
    (summary, (run_tells lanes job (Ok summary) reader writer lawful ran).run.well text known)

status_of_end : (status ended : ℕ) → (status ≡ ended) ⊎ ((ended ≡ 0) × (status ≡ 1)) → status ≡ 0 → 0 ≡ ended
status_of_end status ended (inl same) well = sym well ∙ same
status_of_end status ended (inr other) well = sym other.0

pub status_0_is_all_written : Status0IsAllWritten
status_0_is_all_written words input output text known run =
    let over = run.run in
    let lawful = (spelled_chain_is_lawful run.chain run.tools run.spelled).lawful in
    let status : 0 ≡ status_of over.run.answer = status_of_end 0 over.ended over.status_is refl ∙ over.run.status_is in
    let well = ended_well run.lanes (job_of run.tools run.form) over.run.answer _ _ text lawful known status over.run.ran in
    record {
      chain = run.chain;
      tools = run.tools;
      form = run.form;
      summary = well.0;
      given = run.given;
      form_given = run.form_given;
      spelled = run.spelled;
      ended = kept_whole text (job_of run.tools run.form) output.old over.given output.new well.0 well.1 over.kept;
    }

kept_prefix : (text : List ℕ) (job : Job) (old given new : Option (List ℕ)) → IsPrefixOfBytesDue text job old given → Keeps given new
    → IsPrefixOfBytesDue text job old new
kept_prefix text job old given new prefix kept = λ images completed.
    let (n, appended) = prefix images completed in (n, flushed_whole old given new (take n (bytes_due job images)) appended kept)

given_prefix : (lanes : ℕ) (job : Job) (answer : Result Summary RunFault) (reader writer : Change) (text : List ℕ) → AreLawfulTools job.tools
    → reader.old ≡ Some text → answer ≢ Err NoStart → over_threads lanes job answer reader writer → IsPrefixOfBytesDue text job writer.old writer.new
given_prefix lanes job answer reader writer text lawful known started (inl unstarted) = absurd (started unstarted)
given_prefix lanes job answer reader writer text lawful known started (inr ran) = (run_tells lanes job answer reader writer lawful ran).run.prefix text known

pub given_is_due : GivenIsDue
given_is_due words status input output text known ran started =
    let over = ran.run in
    let job = job_of ran.tools ran.form in
    let lawful = (spelled_chain_is_lawful ran.chain ran.tools ran.spelled).lawful in
    kept_prefix text job output.old over.given output.new
    (given_prefix ran.lanes job over.run.answer _ _ text lawful known started over.run.ran) over.kept
