-- A run over a reader that gives a text and never fails, and a writer that began empty, converts that text.
use Rattle.std.proofs.Common.{◌≡◌, ◌⊎◌, ℕ, List, [], subst, sym, inl, inr, arith, refl}
use Rattle.std.specs.Prelude.{Some, Result, Ok, Err, IfOk, IfErr}
use Rattle.pnm_image.specs.Devices.{Failed}
use Rattle.pnm_read.specs.declared.fault.InputFault.{InputFault}
use Rattle.pnm_read.specs.declared.fault.InputFault.TheVariants.{ReadFailed}
use Rattle.pnm_tools.specs.declared.fault.ToolFault.TheVariants.{Memory as ToolMemory}
use Rattle.pnm_tools.specs.Chains.{AreLawfulTools}
use Rattle.pnm_serial.specs.Jobs.{Job, bytes_due}
use Rattle.pnm_serial.specs.Runs.{Change}
use Rattle.pnm_serial.specs.RunFacts.{IsPrefixOfBytesDue, IfInput, EndedWell}
use Rattle.pnm_serial.specs.SerialRuns.{HasRunInOneThread, IsOfOneThread, HasMostMessages}
use Rattle.pnm_serial.specs.Verdicts.{AnswersVerdict, IsVerdict}
use Rattle.pnm_serial.specs.declared.fault.RunFault.{RunFault}
use Rattle.pnm_serial.specs.declared.fault.RunFault.TheVariants.{NoStart, Input, Tool as OfTool, Output, PeerGone}
use Rattle.pnm_serial.specs.declared.summary.Summary.{Summary}
use Rattle.pnm_serial.proofs.RunFactSteps.{tells}
use Rattle.pnm_serial.proofs.RunSteps.{nothing_prefix}
use Rattle.pnm_memory.specs.Conversions.{HasConverted, IsConversion, IsWantOfMemory, FailsAtMostMessages}

-- a reader that counts no failure hasn't failed
never_failed : (old new : ℕ) → old ≡ 0 → new ≡ 0 → Failed old new → ⊥
never_failed old new is_none is_none_yet (inl more, most) = absurd (omega arith)
never_failed old new is_none is_none_yet (inr all, most) = absurd (omega arith)

ends_well : (text written : List ℕ) (job : Job) (answer : Result Summary RunFault)
    → IfOk answer (EndedWell text job (Some []) (Some written)) → IfOk answer (IsConversion text job written)
ends_well text written job (Ok summary) ended = record {
  images = ended.images;
  results = ended.results;
  said = ended.said;
  made = ended.output.made;
  fit = ended.output.fit;
  encoded = ended.output.written;
  counts = ended.counts;
}
ends_well text written job (Err fault) ended = tt

-- the reader's own fault is that more is said of its text than a run takes
of_reader : (text : List ℕ) (reader : Change) (fault : InputFault) → reader.old ≡ Some text → reader.failures_old ≡ 0
    → reader.failures_new ≡ 0 → fault ≡ ReadFailed
    → (Failed reader.failures_old reader.failures_new ⊎ HasMostMessages reader.old reader.new)
    → FailsAtMostMessages text (Input fault)
of_reader text reader fault is_text is_none is_none_yet is_read (inl failed) =
    absurd (never_failed _ _ is_none is_none_yet failed)
of_reader text reader fault is_text is_none is_none_yet is_read (inr outlasts) =
    (rw is_read refl, outlasts.of_text text is_text)

has_fault : (text : List ℕ) (job : Job) (answer : Result Summary RunFault) (reader : Change) → reader.old ≡ Some text
    → reader.failures_old ≡ 0 → reader.failures_new ≡ 0 → AnswersVerdict text job answer → IsOfOneThread answer
    → IfInput answer (λ fault. fault ≡ ReadFailed → Failed reader.failures_old reader.failures_new
    ⊎ HasMostMessages reader.old reader.new)
    → IfErr answer (λ fault. IsVerdict text job (Some fault) ⊎ IsWantOfMemory fault ⊎ FailsAtMostMessages text fault)
has_fault text job (Ok summary) reader is_text is_none is_none_yet verdict one read = tt
has_fault text job (Err NoStart) reader is_text is_none is_none_yet verdict one read = absurd one
has_fault text job (Err (Input fault)) reader is_text is_none is_none_yet (inl (inl is_read)) one read =
    inr (inr (of_reader text reader fault is_text is_none is_none_yet is_read (read is_read)))
has_fault text job (Err (Input fault)) reader is_text is_none is_none_yet (inl (inr is_memory)) one read =
    inr (inl is_memory)
has_fault text job (Err (Input fault)) reader is_text is_none is_none_yet (inr verdict) one read = inl verdict
has_fault text job (Err (OfTool number fault)) reader is_text is_none is_none_yet (inl outside) one read =
    inr (inl outside)
has_fault text job (Err (OfTool number fault)) reader is_text is_none is_none_yet (inr verdict) one read = inl verdict
has_fault text job (Err (Output fault)) reader is_text is_none is_none_yet (inl outside) one read = inr (inl outside)
has_fault text job (Err (Output fault)) reader is_text is_none is_none_yet (inr verdict) one read = inl verdict
has_fault text job (Err (PeerGone number)) reader is_text is_none is_none_yet verdict one read = absurd one

-- the run has read the text and written
pub converted : (text written : List ℕ) (job : Job) (answer : Result Summary RunFault) (reader writer : Change)
    → AreLawfulTools job.tools → HasRunInOneThread job answer reader writer → reader.old ≡ Some text
    → reader.failures_old ≡ 0 → reader.failures_new ≡ 0 → writer.old ≡ Some [] → writer.new ≡ Some written
    → HasConverted text job answer written
converted text written job answer reader writer lawful ran is_text is_none is_none_yet is_empty is_written =
    let reported = tells 1 (HasMostMessages reader.old reader.new) job answer reader writer lawful ran.run in
    record {
      well = ends_well text written job answer (rw (← is_empty) (rw (← is_written) (reported.well text is_text)));
      fault = has_fault text job answer reader is_text is_none is_none_yet (reported.verdict text is_text) ran.one_thread
          reported.read_failed;
      prefix = subst (λ old. IsPrefixOfBytesDue text job old (Some written)) is_empty
          (subst (λ new. IsPrefixOfBytesDue text job writer.old new) is_written (reported.prefix text is_text));
      one_thread = ran.one_thread;
    }

-- there was no memory for the list of the tools, and nothing was written
nothing_written : (text : List ℕ) (job : Job) → HasConverted text job (Err (OfTool 1 ToolMemory)) []
nothing_written text job = record {
  well = tt;
  fault = inr (inl refl);
  prefix = λ images completes. nothing_prefix (Some []) (bytes_due job images);
  one_thread = tt;
}

pub not_converted : (text written : List ℕ) (job : Job) (answer : Result Summary RunFault)
    → answer ≡ Err (OfTool 1 ToolMemory) → written ≡ [] → HasConverted text job answer written
not_converted text written job answer is none =
    subst (λ (a : Result Summary RunFault). HasConverted text job a written) (sym is)
    (subst (HasConverted text job (Err (OfTool 1 ToolMemory))) (sym none) (nothing_written text job))
