-- Each text and chain has one verdict, which is what a run answers where its answer isn't from outside.
use Rattle.pnm_serial.proofs.Words.{◌≡◌, ◌⊎◌, ℕ, ◌+◌, List, [], ◌∷◌, Option, None, Some, Result, Ok, Err, refl, sym, ap, ap₂, subst, ◌∙◌, inl, inr, Image}
use Rattle.pnm_serial.proofs.Words.{InputFault, fault_of, AreSaid, one_list_or_one_fault, are_said, images_of_messages_are_one, ToolFault, Tool, AreResults}
use Rattle.pnm_serial.proofs.Words.{applied, AreResultsInTurn, applied_in_turn, Refusal, refusal_from, refusal_of, rest_in_turn, refusal_by, results_are}
use Rattle.pnm_serial.proofs.Words.{SinkFault, images_fault, RunFault, NoStart, Input, OfTool, Output, PeerGone, Summary, Job, EndedWell, OneAnswerForEachText}
use Rattle.pnm_serial.proofs.Words.{RefusalIs, HasResults, IsVerdict, HasOneVerdict, OneVerdictForEachText, IsFromOutside, summary_of}
use Rattle.pnm_serial.proofs.ResultSteps.{chain_results}

-- ---- the results of a chain

-- the first tool's result of an image, of which the others make this one
first_result : (tools : List Tool) (r : Result Image ToolFault) {k : Image} → rest_in_turn tools r ≡ Ok k
    → (j : Image) × (r ≡ Ok j) × (applied_in_turn tools j ≡ Ok k)
first_result tools (Ok j) is = (j, refl, is)
first_result tools (Err fault) is = absurd cc

first_results : (tool : Tool) (tools : List Tool) (is ks : List Image) → AreResultsInTurn (tool ∷ tools) is ks → (js : List Image) × AreResults tool is js
    × AreResultsInTurn tools js ks
first_results tool tools [] [] are = ([], tt, tt)
first_results tool tools [] (k ∷ ks) are = absurd are
first_results tool tools (i ∷ is) [] are = absurd are
first_results tool tools (i ∷ is) (k ∷ ks) are =
    let first = first_result tools (applied tool i) are.0 in
    let others = first_results tool tools is ks are.1 in
    (first.0 ∷ others.0, (first.1, others.1), (first.2, others.2))

-- a chain that has results of all images refuses none of them
none_refused : (number : ℕ) (tools : List Tool) (is ks : List Image) → AreResultsInTurn tools is ks → refusal_from number tools is ≡ None
none_refused number [] is ks are = refl
none_refused number (tool ∷ tools) is ks are =
    let first = first_results tool tools is ks are in
    ap (refusal_by number tools) (results_are tool is first.0 first.1) ∙ none_refused (number + 1) tools first.0 ks first.2

-- and no two lists of results
results_are_one : (tools : List Tool) (is js ks : List Image) → AreResultsInTurn tools is js → AreResultsInTurn tools is ks → js ≡ ks
results_are_one tools [] [] [] one other = refl
results_are_one tools [] [] (k ∷ ks) one other = absurd other
results_are_one tools [] (j ∷ js) ks one other = absurd one
results_are_one tools (i ∷ is) [] ks one other = absurd one
results_are_one tools (i ∷ is) (j ∷ js) [] one other = absurd other
results_are_one tools (i ∷ is) (j ∷ js) (k ∷ ks) one other =
    let same : j ≡ k = cc (one.0, other.0) in
    ap₂ (λ (x : Image) (xs : List Image). x ∷ xs) same (results_are_one tools is js ks one.1 other.1)

-- ---- one verdict

images_are_one : {text : List ℕ} {images others : List Image} → AreSaid text images → AreSaid text others → images ≡ others
images_are_one {images} {others} one other = images_of_messages_are_one others images other.images_are one.images_are (sym other.messages ∙ one.messages)

refusals_are_one : {text : List ℕ} (tools : List Tool) {images others : List Image} {one other : Option Refusal} → AreSaid text images → AreSaid text others
    → refusal_of tools images ≡ one → refusal_of tools others ≡ other → one ≡ other
refusals_are_one tools said said_too is is_too = sym is ∙ ap (refusal_of tools) (images_are_one said said_too) ∙ is_too

-- the fault of a refusal
abbrev fault_of_refusal : Option Refusal → Option RunFault
fault_of_refusal None = None
fault_of_refusal (Some refusal) = Some (OfTool refusal.number refusal.fault)

-- a text of which images are said has no fault
never_at_fault : {text : List ℕ} {images : List Image} {fault : InputFault} → AreSaid text images → fault_of text ≡ Some fault → ⊥
never_at_fault said is = cc (is, said.sound)

-- and no two reasons for which the form can't hold its results
reasons_are_one : {text : List ℕ} {job : Job} {one other : Option SinkFault} → HasResults text job one → HasResults text job other → one ≡ other
reasons_are_one {job} is is_too =
    let images = images_are_one is.said is_too.said in
    let made = subst (λ (l : List Image). AreResultsInTurn job.tools l is.results) images is.made in
    sym is.fit ∙ ap (images_fault job.form) (results_are_one job.tools is_too.images is.results is_too.results made is_too.made) ∙ is_too.fit

-- a text whose images no tool refuses isn't one of which a tool refuses an image
never_refused : {text : List ℕ} {job : Job} {found : Option SinkFault} (number : ℕ) (fault : ToolFault) → HasResults text job found
    → RefusalIs text job.tools (Some (record { number = number; fault = fault })) → ⊥
never_refused {job} number fault is refused =
    let same = refusals_are_one job.tools is.said refused.1 is.taken refused.2 in absurd cc

-- the verdict of a form's reason
abbrev verdict_of_form : Option SinkFault → Option RunFault
verdict_of_form None = None
verdict_of_form (Some fault) = Some (Output fault)

verdicts_are_one : (text : List ℕ) (job : Job) (one other : Option RunFault) → IsVerdict text job one → IsVerdict text job other → one ≡ other
verdicts_are_one text job None None is is_too = refl
verdicts_are_one text job None (Some (Input fault)) is is_too = absurd (never_at_fault is.said is_too)
verdicts_are_one text job None (Some (OfTool number fault)) is is_too = absurd (never_refused number fault is is_too)
verdicts_are_one text job None (Some NoStart) is is_too = absurd is_too
verdicts_are_one text job None (Some (Output fault)) is is_too = ap verdict_of_form (reasons_are_one is is_too)
verdicts_are_one text job None (Some (PeerGone number)) is is_too = absurd is_too
verdicts_are_one text job (Some (Input fault)) None is is_too = absurd (never_at_fault is_too.said is)
verdicts_are_one text job (Some (Input fault)) (Some (Input fault_too)) is is_too = let same : fault ≡ fault_too = cc in
    ap (λ (f : InputFault). Some (Input f)) same
verdicts_are_one text job (Some (Input fault)) (Some (OfTool number fault_too)) is is_too = absurd (never_at_fault is_too.1 is)
verdicts_are_one text job (Some (Input fault)) (Some NoStart) is is_too = absurd is_too
verdicts_are_one text job (Some (Input fault)) (Some (Output fault_too)) is is_too = absurd (never_at_fault is_too.said is)
verdicts_are_one text job (Some (Input fault)) (Some (PeerGone number)) is is_too = absurd is_too
verdicts_are_one text job (Some (OfTool number fault)) None is is_too = absurd (never_refused number fault is_too is)
verdicts_are_one text job (Some (OfTool number fault)) (Some (Input fault_too)) is is_too = absurd (never_at_fault is.1 is_too)
verdicts_are_one text job (Some (OfTool number fault)) (Some (OfTool number_too fault_too)) is is_too =
    ap fault_of_refusal (refusals_are_one job.tools is.1 is_too.1 is.2 is_too.2)
verdicts_are_one text job (Some (OfTool number fault)) (Some NoStart) is is_too = absurd is_too
verdicts_are_one text job (Some (OfTool number fault)) (Some (Output fault_too)) is is_too = absurd (never_refused number fault is_too is)
verdicts_are_one text job (Some (OfTool number fault)) (Some (PeerGone number_too)) is is_too = absurd is_too
verdicts_are_one text job (Some NoStart) other is is_too = absurd is
verdicts_are_one text job (Some (Output fault)) None is is_too = ap verdict_of_form (reasons_are_one is is_too)
verdicts_are_one text job (Some (Output fault)) (Some (Input fault_too)) is is_too = absurd (never_at_fault is.said is_too)
verdicts_are_one text job (Some (Output fault)) (Some (OfTool number fault_too)) is is_too = absurd (never_refused number fault_too is is_too)
verdicts_are_one text job (Some (Output fault)) (Some NoStart) is is_too = absurd is_too
verdicts_are_one text job (Some (Output fault)) (Some (Output fault_too)) is is_too = ap verdict_of_form (reasons_are_one is is_too)
verdicts_are_one text job (Some (Output fault)) (Some (PeerGone number)) is is_too = absurd is_too
verdicts_are_one text job (Some (PeerGone number)) other is is_too = absurd is

has_one : {text : List ℕ} {job : Job} (verdict : Option RunFault) → IsVerdict text job verdict → HasOneVerdict text job
has_one {text} {job} verdict holds = record { verdict = verdict; holds = holds; only = λ other is. verdicts_are_one text job other verdict is holds }

by_form : {text : List ℕ} {job : Job} (found : Option SinkFault) → HasResults text job found → HasOneVerdict text job
by_form None is = has_one None is
by_form (Some fault) is = has_one (Some (Output fault)) is

by_refusal : {text : List ℕ} {job : Job} {images : List Image} (found : Option Refusal) → AreSaid text images → refusal_of job.tools images ≡ found
    → HasOneVerdict text job
by_refusal {job} {images} None said is =
    let found = chain_results 1 job.tools images is in
    by_form (images_fault job.form found.0) (record { images = images; results = found.0; said = said; taken = is; made = found.1; fit = refl })
by_refusal {images} (Some refusal) said is = has_one (Some (OfTool refusal.number refusal.fault)) (images, said, is)

pub one_verdict : OneVerdictForEachText
one_verdict text job =
    elim (one_list_or_one_fault text) [
      | inl found ↦ by_refusal (refusal_of job.tools found.0) (are_said text found.0 found.1.spelled) refl
      | inr found ↦ has_one (Some (Input found.0)) found.1.first
    ]

-- ---- the answer of a run

-- two runs that ended well have the same summary
summaries_are_one : {text : List ℕ} {job : Job} {old new old_too new_too : Option (List ℕ)} {one other : Summary} → EndedWell text job old new one
    → EndedWell text job old_too new_too other → one ≡ other
summaries_are_one {job} well well_too =
    let images = images_are_one well.said well_too.said in
    let made = subst (λ (is : List Image). AreResultsInTurn job.tools is well.results) images well.output.made in
    well.counts ∙ ap summary_of (results_are_one job.tools well_too.images well.results well_too.results made well_too.output.made) ∙ sym well_too.counts

-- a fault that isn't from outside is the verdict
fault_inside : (text : List ℕ) (job : Job) (fault : RunFault) → IsFromOutside fault ⊎ IsVerdict text job (Some fault) → ¬ IsFromOutside fault
    → IsVerdict text job (Some fault)
fault_inside text job fault (inl outside) inside = absurd (inside outside)
fault_inside text job fault (inr verdict) inside = verdict

pub one_answer : OneAnswerForEachText
one_answer text job (Ok summary) (Ok summary_too) writer writer_too is is_too = ap Ok (summaries_are_one is.well is_too.well)
one_answer text job (Ok summary) (Err fault) writer writer_too is is_too = let same =
    verdicts_are_one text job None (Some fault) is.verdict (fault_inside text job fault is_too.verdict is_too.inside) in absurd cc
one_answer text job (Err fault) (Ok summary) writer writer_too is is_too = let same =
    verdicts_are_one text job None (Some fault) is_too.verdict (fault_inside text job fault is.verdict is.inside) in absurd cc
one_answer text job (Err fault) (Err fault_too) writer writer_too is is_too =
    let same = verdicts_are_one text job (Some fault) (Some fault_too) (fault_inside text job fault is.verdict is.inside)
    (fault_inside text job fault_too is_too.verdict is_too.inside) in
    let fault_is : fault ≡ fault_too = cc in
    ap Err fault_is
