-- What a run over threads answers once all have ended.
use Rattle.pnm_flow.proofs.Words.{◌≡◌, ◌≢◌, inl, inr, ℕ, suc, drop, get_or, ◌+◌, ◌<◌, Bool, true, false, List, [], ◌∷◌, length, Option, Some, None, Result, Ok}
use Rattle.pnm_flow.proofs.Words.{Err, refl, ap, subst, ◌∙◌, arith, drop-cons, InputFault, NoMemoryToRead, Source, reader_of, SinkFault, RunFault, NoStart}
use Rattle.pnm_flow.proofs.Words.{Input, OfTool, Output, Gone, StageEnd, Well, Broken, Fault, PeerGone, Summary, Job, Change, change, HasRun, fault_of_end}
use Rattle.pnm_flow.proofs.Words.{first_fault_from, answer_over, ended_has_run, serial_unread}
use Rattle.pnm_flow.proofs.ThreadedRunSteps.{Over, gone_has_run, ended_over, well_stages, refused_stages}

-- ---- the answer

-- the number of a stage that saw an end dropped is one of theirs
gone_within : (from number : ℕ) (ends : List StageEnd) → first_fault_from from ends ≡ Some (Gone number) → number < from + length ends
gone_within from number [] is = absurd cc
gone_within from number (Well ∷ ends) is = let next = gone_within (from + 1) number ends is in omega arith
gone_within from number (Broken ∷ ends) is = let next = gone_within (from + 1) number ends is in omega arith
gone_within from number (Fault fault ∷ ends) is = absurd cc
gone_within from number (PeerGone ∷ ends) is = let same : from ≡ number = cc in omega (arith, same)

-- stages are answered by nothing else
abbrev IsOfStage : RunFault → Type 0
IsOfStage NoStart = ⊥
IsOfStage (Input fault) = ⊥
IsOfStage (OfTool number fault) = Unit {0}
IsOfStage (Output fault) = ⊥
IsOfStage (Gone number) = Unit {0}

of_stage : (from : ℕ) (ends : List StageEnd) (fault : RunFault) → first_fault_from from ends ≡ Some fault → IsOfStage fault
of_stage from [] fault is = absurd cc
of_stage from (Well ∷ ends) fault is = of_stage (from + 1) ends fault is
of_stage from (Broken ∷ ends) fault is = of_stage (from + 1) ends fault is
of_stage from (Fault other ∷ ends) fault is = let same : OfTool from other ≡ fault = cc in subst IsOfStage same tt
of_stage from (PeerGone ∷ ends) fault is = let same : Gone from ≡ fault = cc in subst IsOfStage same tt

pub over_has_run : {R W : Type 0} (left : R → Option (List ℕ)) (reader_failures : R → ℕ) (held : W → Option (List ℕ)) (failures : W → ℕ)
    (first source : Source R) (start done : W) (lanes : ℕ) (job : Job) (ends : List StageEnd) (input : Option (Result (Unit {0}) InputFault))
    (found : Option RunFault) (has_ended : Bool) (output : Result Summary SinkFault)
    → Over left reader_failures held failures first source start done lanes job ends input has_ended output → length ends ≡ length job.tools
    → first_fault_from 1 ends ≡ found
    → HasRun lanes ⊥ job (answer_over input found has_ended (length ends + 1) output)
    (change left reader_failures (reader_of first) (reader_of source)) (change held failures start done)
over_has_run left reader_failures held failures first source start done lanes job ends None found has_ended output over many is =
    gone_has_run left reader_failures held failures first source start done lanes job ends None has_ended output 0 over (inl refl) (omega arith)
over_has_run left reader_failures held failures first source start done lanes job ends (Some (Err fault)) found has_ended output over many is =
    let ended = ended_over left reader_failures held failures first source start done lanes job ends (Err fault) has_ended output None [] over
    (λ well. absurd cc) in
    ended_has_run lanes ⊥ (change left reader_failures (reader_of first) (reader_of source)) held failures start done job (Err fault) None output ended
over_has_run left reader_failures held failures first source start done lanes job ends (Some (Ok tt)) (Some NoStart) has_ended output over many is =
    absurd (of_stage 1 ends NoStart is)
over_has_run left reader_failures held failures first source start done lanes job ends (Some (Ok tt)) (Some (Input fault)) has_ended output over many is =
    absurd (of_stage 1 ends (Input fault) is)
over_has_run left reader_failures held failures first source start done lanes job ends (Some (Ok tt)) (Some (Output fault)) has_ended output over many is =
    absurd (of_stage 1 ends (Output fault) is)
over_has_run left reader_failures held failures first source start done lanes job ends (Some (Ok tt)) (Some (OfTool number fault)) has_ended output over many
    is =
    let stages = refused_stages left reader_failures held failures first source start done lanes job ends has_ended output number fault over is in
    let ended = ended_over left reader_failures held failures first source start done lanes job ends (Ok tt) has_ended output (Some (number, fault)) stages.0
    over (λ well. stages.1) in
    ended_has_run lanes ⊥ (change left reader_failures (reader_of first) (reader_of source)) held failures start done job (Ok tt) (Some (number, fault))
    output
    ended
over_has_run left reader_failures held failures first source start done lanes job ends (Some (Ok tt)) (Some (Gone number)) has_ended output over many is =
    gone_has_run left reader_failures held failures first source start done lanes job ends (Some (Ok tt)) has_ended output number over (inr refl)
    (let within = gone_within 1 number ends is in omega (arith, many))
over_has_run left reader_failures held failures first source start done lanes job ends (Some (Ok tt)) None false output over many is =
    gone_has_run left reader_failures held failures first source start done lanes job ends (Some (Ok tt)) false output (length ends + 1) over (inr refl)
    (omega (arith, many))
over_has_run left reader_failures held failures first source start done lanes job ends (Some (Ok tt)) None true (Err fault) over many is =
    let stages = well_stages left reader_failures held failures first source start done lanes job ends (Err fault) over is in
    let ended = ended_over left reader_failures held failures first source start done lanes job ends (Ok tt) true (Err fault) None stages.0 over
    (λ well. stages.1) in
    ended_has_run lanes ⊥ (change left reader_failures (reader_of first) (reader_of source)) held failures start done job (Ok tt) None (Err fault) ended
over_has_run left reader_failures held failures first source start done lanes job ends (Some (Ok tt)) None true (Ok summary) over many is =
    let stages = well_stages left reader_failures held failures first source start done lanes job ends (Ok summary) over is in
    let ended = ended_over left reader_failures held failures first source start done lanes job ends (Ok tt) true (Ok summary) None stages.0 over
    (λ well. stages.1) in
    ended_has_run lanes ⊥ (change left reader_failures (reader_of first) (reader_of source)) held failures start done job (Ok tt) None (Ok summary) ended

-- ---- the first fault

-- the stages from this one on
pub from_this : (ends : List StageEnd) (index : ℕ) (other end : StageEnd) → index < length ends → get_or ends index other ≡ end
    → first_fault_from (index + 1) (drop index ends) ≡ first_fault_from (index + 1) (end ∷ drop (suc index) ends)
from_this ends index other end within is =
    ap (first_fault_from (index + 1)) (drop-cons ends index other within ∙ ap (λ (x : StageEnd). x ∷ drop (suc index) ends) is)

-- a stage that has none, and one that has
pub passed_over : (from : ℕ) (end : StageEnd) (rest : List StageEnd) → fault_of_end from end ≡ None
    → first_fault_from from (end ∷ rest) ≡ first_fault_from (from + 1) rest
passed_over from Well rest none = refl
passed_over from Broken rest none = refl
passed_over from (Fault fault) rest none = absurd cc
passed_over from PeerGone rest none = absurd cc

pub found_here : (from : ℕ) (end : StageEnd) (rest : List StageEnd) (fault : RunFault) → fault_of_end from end ≡ Some fault
    → first_fault_from from (end ∷ rest) ≡ Some fault
found_here from Well rest fault is = absurd cc
found_here from Broken rest fault is = absurd cc
found_here from (Fault other) rest fault is = is
found_here from PeerGone rest fault is = is

-- it isn't that the run couldn't be started
started_by : (input : Option (Result (Unit {0}) InputFault)) (found : Option RunFault) (has_ended : Bool) (behind : ℕ) (output : Result Summary SinkFault)
    → ((fault : RunFault) → found ≡ Some fault → IsOfStage fault) → answer_over input found has_ended behind output ≢ Err NoStart
started_by None found has_ended behind output of = λ is. absurd cc
started_by (Some (Err fault)) found has_ended behind output of = λ is. absurd cc
started_by (Some (Ok tt)) (Some fault) has_ended behind output of = λ is. let same : fault ≡ NoStart = cc in subst IsOfStage same (of fault refl)
started_by (Some (Ok tt)) None false behind output of = λ is. absurd cc
started_by (Some (Ok tt)) None true behind (Err fault) of = λ is. absurd cc
started_by (Some (Ok tt)) None true behind (Ok summary) of = λ is. absurd cc

pub was_started : (input : Option (Result (Unit {0}) InputFault)) (ends : List StageEnd) (has_ended : Bool) (behind : ℕ) (output : Result Summary SinkFault)
    → answer_over input (first_fault_from 1 ends) has_ended behind output ≢ Err NoStart
was_started input ends has_ended behind output = started_by input (first_fault_from 1 ends) has_ended behind output (λ fault is. of_stage 1 ends fault is)

-- ---- before the first message

-- there is no memory to read
pub unread_has_run : (lanes : ℕ) (job : Job) (reader writer : Change) → reader.new ≡ reader.old → reader.failures_new ≡ reader.failures_old
    → writer.new ≡ writer.old → HasRun lanes ⊥ job (Err (Input NoMemoryToRead)) reader writer
unread_has_run lanes job reader writer read same_count written =
    serial_unread lanes ⊥ job reader writer read same_count written
