-- What a run over threads knows once all have ended, and what follows of it for its answer.
use Rattle.pnm_flow.proofs.Words.{◌≡◌, ◌⊎◌, inl, inr, ℕ, ◌+◌, ◌≤◌, Bool, true, false, List, [], ◌∷◌, ◌++◌, length, Option, Some, None, Result, Ok, Err, refl}
use Rattle.pnm_flow.proofs.Words.{sym, ap, subst, ◌∙◌, append_assoc, append-nil, arith, Consumes, Keeps, sent, received, IsEnded, Message, Stop, Image}
use Rattle.pnm_flow.proofs.Words.{messages_of_stream, without_stop, EndsBy, IsPrefixOf, Completes, InputFault, ReadFailed, Source, said_of, reader_of}
use Rattle.pnm_flow.proofs.Words.{given_is_prefix, said_text_is_spelled, no_fault, ToolFault, Tool, More, Whole, AreSound, AreLawfulTools, due_in_turn}
use Rattle.pnm_flow.proofs.Words.{prefix_of_due_is_sound, prefix_of_prefix, sound_keeps_all, unbroken_keeps_all, SinkFault, FusedSink, OfTool, Gone, Link}
use Rattle.pnm_flow.proofs.Words.{StageEnd, Summary, FirstIsThere, AreStages, EndedBy, output_of, HasTaken, AnswersFlushes, HasAskedAll, HasAskedBy}
use Rattle.pnm_flow.proofs.Words.{closing_messages, IsSaidOf, HasMore, MayFollowRead, Job, Change, change, MayFollow, HasRun, answer_by, IsPrefixOfDue}
use Rattle.pnm_flow.proofs.Words.{first_fault_from, nothing_follows, stream_ends_whole, prefix_without_stop, stop_is_cut, ends_with, Ended, StagesAnswered}
use Rattle.pnm_flow.proofs.Words.{ended_so, given_is_sound, may_give, Ran, run_due, run_begun, output_all, sound_is_writable}
use Rattle.pnm_flow.proofs.ToolOverLaws.{stage_ended, received_ended}
use Rattle.pnm_flow.proofs.StageEndLaws.{all_answered, answered_until, next_is_well, next_is_there}

-- where nothing is left, a part is all
whole_list : (all l left : List Message) → all ≡ l ++ left → left ≡ [] → all ≡ l
whole_list all l left parts none = parts ∙ ap (λ (x : List Message). l ++ x) none ∙ append-nil l

-- ---- the run

-- What is known once all have ended: what the source gave and how it ended, how much of it the first tool received, how
-- the tools ended, how much of what the last one sent was taken, and what the sink took of it.
pub record Over {R W : Type 0} (left : R → Option (List ℕ)) (reader_failures : R → ℕ) (held : W → Option (List ℕ)) (failures : W → ℕ) (first source : Source R)
    (start done : W)
    (lanes : ℕ) (job : Job) (ends : List StageEnd) (input : Option (Result (Unit {0}) InputFault)) (has_ended : Bool)
    (output : Result Summary SinkFault) : Type 0 where
  pub lawful : AreLawfulTools job.tools
  pub given : List Message
  pub asked : HasAskedBy left reader_failures first source given input
  pub fed : List Message
  pub passed : fed ≡ given ++ closing_messages input
  pub took : List Message
  pub untaken : List Message
  pub received : fed ≡ took ++ untaken
  pub links : List Link
  pub gave : List Message
  pub stages : AreStages lanes job.tools ends links took gave
  pub due : IsPrefixOfDue (due_in_turn job.tools) took gave
  pub got : List Message
  pub rest : List Message
  pub came : gave ≡ got ++ rest
  pub ended : EndedBy has_ended got
  pub all : (has_ended ≡ true) ⊎ (rest ≡ [])
  pub sink : FusedSink W
  pub taken : HasTaken held failures job.form start (without_stop got) sink
  pub kept : Keeps (held (output_of sink)) (held done)
  pub broken : (fault : SinkFault) → sink.output ≡ Err fault → (output ≡ Err fault) × (done ≡ output_of sink)
  pub well : sink.output ≡ Ok tt → AnswersFlushes failures sink done output

given_sound : {R : Type 0} (left : R → Option (List ℕ)) (failures : R → ℕ) (first source : Source R) (given : List Message)
    (input : Option (Result (Unit {0}) InputFault)) → HasAskedBy left failures first source given input → AreSound given
given_sound left failures first source given None asked = given_is_sound source asked.read given asked.told
given_sound left failures first source given (Some result) asked = asked.sound

-- the messages of the source are what was sent, but for Stop after a fault
closing_is_cut : (given : List Message) (input : Option (Result (Unit {0}) InputFault)) → AreSound given
    → without_stop (given ++ closing_messages input) ≡ given
closing_is_cut given None sound = ap without_stop (append-nil given) ∙ sound_keeps_all given sound.sound
closing_is_cut given (Some (Ok x)) sound = ap without_stop (append-nil given) ∙ sound_keeps_all given sound.sound
closing_is_cut given (Some (Err fault)) sound = stop_is_cut given

-- images that complete what the source gave complete what was accepted of it
accepted_completed : (given closed accepted a b fed took : List Message) (is : List Image) → AreSound given → without_stop closed ≡ given → fed ≡ closed
    → fed ≡ took ++ b → took ≡ accepted ++ a → Completes is given → Completes is accepted
accepted_completed given closed accepted a b fed took is sound cut passed received parts completes =
    let whole : accepted ++ (a ++ b) ≡ closed =
    sym (append_assoc accepted a b) ∙ ap (λ (x : List Message). x ++ b) (sym parts) ∙ sym received ∙ passed in
    let prefix = subst (IsPrefixOf (without_stop accepted)) (ap without_stop whole ∙ cut) (prefix_without_stop accepted (a ++ b)) in
    let of_given = subst (λ (x : List Message). IsPrefixOf x (messages_of_stream is)) (sound_keeps_all given sound.sound) completes.prefix in
    record { images = completes.images; prefix = prefix_of_prefix (without_stop accepted) given (messages_of_stream is) prefix of_given }

pub ran_over : {R W : Type 0} (left : R → Option (List ℕ)) (reader_failures : R → ℕ) (held : W → Option (List ℕ)) (failures : W → ℕ) (first source : Source R)
    (start done : W) (lanes : ℕ) (job : Job) (ends : List StageEnd) (input : Option (Result (Unit {0}) InputFault)) (has_ended : Bool)
    (output : Result Summary SinkFault)
    → (over : Over left reader_failures held failures first source start done lanes job ends input has_ended output)
    → Ran held failures start job over.given (without_stop over.got) over.sink
ran_over left reader_failures held failures first source start done lanes job ends input has_ended output over =
    let sound = given_sound left reader_failures first source over.given input over.asked in
    let prefix = subst (λ (x : List Message). IsPrefixOf (without_stop over.got) (without_stop x)) (sym over.came) (prefix_without_stop over.got over.rest) in
    let due : (is : List Image) → Completes is over.given → IsPrefixOf (without_stop over.got) (due_in_turn job.tools is) = λ is completes.
    prefix_of_prefix (without_stop over.got) (without_stop over.gave) (due_in_turn job.tools is) prefix
    (over.due.prefix is (accepted_completed over.given (over.given ++ closing_messages input) over.due.accepted over.due.rest over.untaken over.fed
    over.took is sound
    (closing_is_cut over.given input sound) over.passed over.received over.due.parts completes)) in
    record {
      lawful = over.lawful;
      sound = sound;
      writable = sound_is_writable (without_stop over.got) (prefix_of_due_is_sound job.tools over.given (without_stop over.got) over.lawful sound due);
      due = due;
      taken = over.taken;
    }

-- ---- an end that was dropped

-- what the source gave is a prefix of what is said, however it ended
said_by : {R : Type 0} (left : R → Option (List ℕ)) (failures : R → ℕ) (first source : Source R) (given : List Message)
    (input : Option (Result (Unit {0}) InputFault)) → (input ≡ None) ⊎ (input ≡ Some (Ok tt)) → HasAskedBy left failures first source given input
    → (read : List ℕ) × Consumes (left (reader_of first)) (left (reader_of source)) read × (failures (reader_of source) ≡ failures (reader_of first))
    × ((rest : List ℕ) → MayFollowRead (Ok tt) (change left failures (reader_of first) (reader_of source)) rest → IsPrefixOf given (said_of (read ++ rest)))
said_by left failures first source given None well asked = (
  asked.read,
  asked.consumed,
  asked.count,
  λ rest may. given_is_prefix source asked.read given rest asked.told
      (may_give left failures first source (Ok tt) rest asked.unread (λ failed. absurd (no_fault tt ReadFailed failed.0)) may),
)
said_by left failures first source given (Some (Ok x)) well asked =
    (asked.read, asked.consumed, asked.count (no_fault tt ReadFailed), λ rest may. ([], (asked.told rest may).0 ∙ sym (append-nil given)))
said_by left failures first source given (Some (Err fault)) (inl none) asked = absurd cc
said_by left failures first source given (Some (Err fault)) (inr well) asked = absurd cc

-- what may follow by the answer may so where the source had no fault
may_follow_gone : (number : ℕ) (reader : Change) (rest : List ℕ) → MayFollow ⊥ (Err (Gone number)) reader rest → MayFollowRead (Ok tt) reader rest
may_follow_gone number reader rest may =
    elim may [
      | inl none ↦ inl none
      | inr others ↦
          elim others [
            | inl left ↦ inr (inl (subst HasMore (sym left.2) tt))
            | inr failed ↦ absurd (let never = failed.0 in cc)
          ]
    ]

-- a run in which a ring's other end was seen dropped
pub gone_has_run : {R W : Type 0} (left : R → Option (List ℕ)) (reader_failures : R → ℕ) (held : W → Option (List ℕ)) (failures : W → ℕ)
    (first source : Source R)
    (start done : W) (lanes : ℕ) (job : Job) (ends : List StageEnd) (input : Option (Result (Unit {0}) InputFault)) (has_ended : Bool)
    (output : Result Summary SinkFault) (number : ℕ)
    → (over : Over left reader_failures held failures first source start done lanes job ends input has_ended output) → (input ≡ None) ⊎ (input ≡ Some (Ok tt))
    → number ≤ length job.tools + 1
    → HasRun lanes ⊥ job (Err (Gone number)) (change left reader_failures (reader_of first) (reader_of source)) (change held failures start done)
gone_has_run left reader_failures held failures first source start done lanes job ends input has_ended output number over well within =
    let reader = change left reader_failures (reader_of first) (reader_of source) in
    let said = said_by left reader_failures first source over.given input well over.asked in
    let ran = ran_over left reader_failures held failures first source start done lanes job ends input has_ended output over in
    let out = without_stop over.got in
    record {
      read = said.0;
      consumed = said.1;
      verdict = λ rest may. inr within;
      bytes = record {
        given = out;
        due = λ text of images completes.
            let prefix = subst (λ (l : List ℕ). IsPrefixOf over.given (said_of l)) (sym of.2) (said.3 of.0 (may_follow_gone number reader of.0 of.1)) in
            run_due held failures start job over.given out over.sink text ran prefix images completes;
        full = λ all. absurd all;
        prefix = run_begun held failures start done job over.given out over.sink ran over.kept;
        all = λ sound. output_all held failures job.form start done out over.sink over.sink.output ran.writable ran.taken
            (λ fault e. (over.broken fault e).1) over.kept sound;
        well = λ summary is. absurd cc;
        refused = λ fault is not_writer. absurd cc;
      };
      failures = record {
        read_failed = λ is. absurd cc;
        read = λ no_failure. said.2;
        write_failed = λ is. absurd cc;
        written = λ summary is. absurd cc;
      };
    }

-- ---- the other answers

-- what the source gave is told of what may follow by the answer: after a failed read of anything
told_over : {R : Type 0} (left : R → Option (List ℕ)) (failures : R → ℕ) (first source : Source R) (given : List Message)
    (result : Result (Unit {0}) InputFault) (refused : Option (ℕ × ToolFault)) (output : Result Summary SinkFault)
    → (asked : HasAskedAll left failures first source given result) → (rest : List ℕ)
    → MayFollow ⊥ (answer_by result refused output) (change left failures (reader_of first) (reader_of source)) rest
    → IsSaidOf (asked.read ++ rest) given result
told_over left failures first source given result refused output asked rest may =
    elim may [
      | inl none ↦ asked.told rest (inl none)
      | inr others ↦
          elim others [
            | inl more ↦ asked.told rest (inr (inl (subst HasMore (sym more.2) tt)))
            | inr failed ↦ asked.after_failed_read (ended_so result refused output failed.0) rest
          ]
    ]

pub ended_over : {R W : Type 0} (left : R → Option (List ℕ)) (reader_failures : R → ℕ) (held : W → Option (List ℕ)) (failures : W → ℕ) (first source : Source R)
    (start done : W) (lanes : ℕ) (job : Job) (ends : List StageEnd) (result : Result (Unit {0}) InputFault) (has_ended : Bool)
    (output : Result Summary SinkFault)
    (refused : Option (ℕ × ToolFault)) (faults : List (Option ToolFault))
    → (over : Over left reader_failures held failures first source start done lanes job ends (Some result) has_ended output)
    → (result ≡ Ok tt → StagesAnswered lanes job faults over.given (without_stop over.got) refused)
    → Ended lanes ⊥ (change left reader_failures (reader_of first) (reader_of source)) held failures start done job result refused output
ended_over left reader_failures held failures first source start done lanes job ends result has_ended output refused faults over stages = record {
  faults = faults;
  given = over.given;
  out = without_stop over.got;
  sink = over.sink;
  read = over.asked.read;
  consumed = over.asked.consumed;
  told = λ rest may. told_over left reader_failures first source over.given result refused output over.asked rest may;
  count = over.asked.count;
  read_failed = λ failed. inl (over.asked.read_failed failed);
  ran = ran_over left reader_failures held failures first source start done lanes job ends (Some result) has_ended output over;
  stages = stages;
  kept = over.kept;
  broken = over.broken;
  well = over.well;
}

-- the first stage has received a list that has ended
first_received : (lanes : ℕ) (tools : List Tool) (ends : List StageEnd) (links : List Link) (took gave : List Message)
    → AreStages lanes tools ends links took gave → FirstIsThere ends → IsEnded took
first_received lanes [] ends links took gave are there = absurd are
first_received lanes (t ∷ tools) [] links took gave are there = absurd are
first_received lanes (t ∷ tools) (e ∷ ends) [] took gave are there = received_ended lanes t e took gave (stage_ended lanes t e took gave are.2) there
first_received lanes (t ∷ tools) (e ∷ ends) (l ∷ links) took gave are there =
    received_ended lanes t e took (sent l.producer) (stage_ended lanes t e took (sent l.producer) are.0) there

-- the source gave a whole stream
given_whole : {R : Type 0} (left : R → Option (List ℕ)) (failures : R → ℕ) (first source : Source R) (given : List Message)
    → HasAskedBy left failures first source given (Some (Ok tt)) → EndsBy Whole given
given_whole left failures first source given asked =
    let said = asked.told [] (inl refl) in
    let found = said_text_is_spelled (asked.read ++ []) said.1 in
    subst (EndsBy Whole) (sym found.2 ∙ said.0) (stream_ends_whole found.0)

-- and the first tool received it all
took_all : {R W : Type 0} (left : R → Option (List ℕ)) (reader_failures : R → ℕ) (held : W → Option (List ℕ)) (failures : W → ℕ) (first source : Source R)
    (start done : W) (lanes : ℕ) (job : Job) (ends : List StageEnd) (has_ended : Bool) (output : Result Summary SinkFault)
    → (over : Over left reader_failures held failures first source start done lanes job ends (Some (Ok tt)) has_ended output) → FirstIsThere ends
    → (EndsBy Whole over.given) × (over.took ≡ over.given)
took_all left reader_failures held failures first source start done lanes job ends has_ended output over there =
    let whole = given_whole left reader_failures first source over.given over.asked in
    let all : over.fed ≡ over.given = over.passed ∙ append-nil over.given in
    let ended = first_received lanes job.tools ends over.links over.took over.gave over.stages there in
    let none = nothing_follows over.took over.untaken ended (subst IsEnded (sym all ∙ over.received) (inl whole)) in
    (whole, sym (whole_list over.fed over.took over.untaken over.received none) ∙ all)

-- no stage is at fault, and the end of the stream was taken
pub well_stages : {R W : Type 0} (left : R → Option (List ℕ)) (reader_failures : R → ℕ) (held : W → Option (List ℕ)) (failures : W → ℕ)
    (first source : Source R)
    (start done : W) (lanes : ℕ) (job : Job) (ends : List StageEnd) (output : Result Summary SinkFault)
    → (over : Over left reader_failures held failures first source start done lanes job ends (Some (Ok tt)) true output) → first_fault_from 1 ends ≡ None
    → (faults : List (Option ToolFault)) × StagesAnswered lanes job faults over.given (without_stop over.got) None
well_stages left reader_failures held failures first source start done lanes job ends output over none =
    let there = next_is_well lanes 1 job.tools ends over.links over.took over.gave over.stages none in
    let took = took_all left reader_failures held failures first source start done lanes job ends true output over there in
    let answered = all_answered lanes 1 job.tools ends over.links over.given over.gave
    (subst (λ (x : List Message). AreStages lanes job.tools ends over.links x over.gave) took.1 over.stages) took.0 none in
    let nothing = nothing_follows over.got over.rest over.ended (subst IsEnded over.came (inl answered.ends)) in
    let all = whole_list over.gave over.got over.rest over.came nothing in (
      answered.faults,
      record {
        last = over.gave;
        answered = answered.answered;
        first = answered.well;
        all = λ output is. sym (unbroken_keeps_all Whole over.gave tt answered.ends) ∙ ap without_stop all;
      },
    )

-- what was taken has ended, or it is all
got_ended : (rest : List Message) (has_ended : Bool) (got : List Message) → EndedBy has_ended got → (has_ended ≡ true) ⊎ (rest ≡ []) → IsEnded got ⊎ (rest ≡ [])
got_ended rest true got ended all = inl ended
got_ended rest false got ended (inl is) = absurd cc
got_ended rest false got ended (inr none) = inr none

-- of what the last tool sent before Stop, and of Stop, all was taken
taken_of_last : (gave got rest last : List Message) → gave ≡ last ++ Stop ∷ [] → EndsBy More last → gave ≡ got ++ rest → IsEnded got ⊎ (rest ≡ [])
    → last ≡ without_stop got
taken_of_last gave got rest last stopped more came (inl ended) =
    let none = nothing_follows got rest ended (subst IsEnded (sym stopped ∙ came) (inr (ends_with last Stop more))) in
    sym (stop_is_cut last) ∙ ap without_stop (sym stopped ∙ whole_list gave got rest came none)
taken_of_last gave got rest last stopped more came (inr none) =
    sym (stop_is_cut last) ∙ ap without_stop (sym stopped ∙ whole_list gave got rest came none)

-- a tool is at fault
pub refused_stages : {R W : Type 0} (left : R → Option (List ℕ)) (reader_failures : R → ℕ) (held : W → Option (List ℕ)) (failures : W → ℕ)
    (first source : Source R)
    (start done : W) (lanes : ℕ) (job : Job) (ends : List StageEnd) (has_ended : Bool) (output : Result Summary SinkFault) (number : ℕ) (fault : ToolFault)
    → (over : Over left reader_failures held failures first source start done lanes job ends (Some (Ok tt)) has_ended output)
    → first_fault_from 1 ends ≡ Some (OfTool number fault)
    → (faults : List (Option ToolFault)) × StagesAnswered lanes job faults over.given (without_stop over.got) (Some (number, fault))
refused_stages left reader_failures held failures first source start done lanes job ends has_ended output number fault over is =
    let there = next_is_there lanes 1 number fault job.tools ends over.links over.took over.gave over.stages is in
    let took = took_all left reader_failures held failures first source start done lanes job ends has_ended output over there in
    let answered = answered_until lanes 1 job.tools ends over.links over.given over.gave number fault over.lawful
    (given_sound left reader_failures first source over.given (Some (Ok tt)) over.asked).lawful
    (subst (λ (x : List Message). AreStages lanes job.tools ends over.links x over.gave) took.1 over.stages) took.0 is in (
      answered.faults,
      record {
        last = answered.last;
        answered = answered.answered;
        first = answered.first;
        all = λ output all.
            let given = answered.sent (omega (arith, all.1)) all.2 in
            taken_of_last over.gave over.got over.rest answered.last given.0 given.1 over.came
            (got_ended over.rest has_ended over.got over.ended over.all);
      },
    )
