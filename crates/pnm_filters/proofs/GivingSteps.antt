-- How a tool at work gives what waits.
use Rattle.pnm_filters.proofs.Words.{◌≡◌, ◌≤◌, inl, inr, ℕ, true, List, [], ◌∷◌, ◌++◌, length, refl, sym, ap, subst, ◌∙◌, append_assoc, Option, Some, None}
use Rattle.pnm_filters.proofs.Words.{arith, IfSome, IfNone, same_from_push, Shape, Message, Begin, Row, ImageEnd, StreamEnd, Stop, Packet, HeadValue}
use Rattle.pnm_filters.proofs.Words.{messages_in, Place, Between, Inside, After, IsLawfulFrom, place_after, place_of, place_of-append, ToolFault, Pending}
use Rattle.pnm_filters.proofs.Words.{Phase, Idle, Rows, RowsAndEnd, Done, GivesEnd, GivesStop, is_all_given, is_idle, waiting_by, waiting_in, Tool, More}
use Rattle.pnm_filters.proofs.Words.{BrokenOff, EndsBy, AnswersInFull, answers_from, rows_come, StateValue, IsAt, SuitsPlace, state_value, IsAnswering, IsGiven}
use Rattle.pnm_filters.proofs.Words.{GivesRows, StopsLast, lawful_stops, not_broken, answering_answers, answering_in_full, answers_end_so, answers_from-append}
use Rattle.pnm_filters.proofs.Words.{tool_answers_images}

-- the first of the messages that waited are given
pub gave : {W : Type 0} (tool_at : W → Tool) (ready_for : W → Shape → List (List ℕ) → Type 0) (due kept : W → List (List ℕ)) (old : StateValue W) (new : W)
    (after : Pending) (fault : Option ToolFault) (p : Packet) (t : Tool) (l g : List Message)
    → IsAt tool_at ready_for due kept old t l g → IsGiven tool_at ready_for due kept old.work old.pending new after (Some p)
    → IsAt tool_at ready_for due kept (state_value new old.place after fault) t l (g ++ messages_in p)
gave tool_at ready_for due kept old new after fault p t l g at gives =
    let rest : List Message = waiting_in after (due new) in
    let waits : IsAnswering t l (g ++ messages_in p) rest = record {
      lawful = at.answering.lawful;
      taken = at.answering.taken;
      given = at.answering.given ∙ ap (λ (x : List Message). g ++ x) gives.waits ∙ sym (append_assoc g (messages_in p) rest);
    } in
    record {
      tool = gives.tool ∙ at.tool;
      options = at.options;
      answering = waits;
      place = at.place;
      ready = gives.ready old.place (rows_come [] l) at.suits at.ready;
      suits = gives.suits old.place at.suits;
      answers = answering_answers t l (g ++ messages_in p) rest (tool_answers_images t at.options) waits;
    }

-- none waited
is_full : {W : Type 0} (tool_at : W → Tool) (ready_for : W → Shape → List (List ℕ) → Type 0) (due kept : W → List (List ℕ)) (old : StateValue W) (new : W)
    (after : Pending) (fault : Option ToolFault) (t : Tool) (l g : List Message)
    → IsAt tool_at ready_for due kept old t l g → IsGiven tool_at ready_for due kept old.work old.pending new after None
    → IsAt tool_at ready_for due kept (state_value new old.place after fault) t l g × AnswersInFull t l g
is_full tool_at ready_for due kept old new after fault t l g at gives =
    let none : waiting_in after (due new) ≡ [] = ap (λ (p : Phase). waiting_by p after.head after.ahead (due new)) gives.none_due in
    let all : IsAnswering t l g [] = subst (IsAnswering t l g) (gives.waits ∙ none) at.answering in (
      record {
        tool = gives.tool ∙ at.tool;
        options = at.options;
        answering = subst (IsAnswering t l g) gives.waits at.answering;
        place = at.place;
        ready = gives.ready old.place (rows_come [] l) at.suits at.ready;
        suits = gives.suits old.place at.suits;
        answers = at.answers;
      },
      answering_in_full t l g (tool_answers_images t at.options) all,
    )

-- ---- Stop alone

-- what is broken off ends in Stop, and so does its answer
stop_waits : (t : Tool) (l g : List Message) (m : Message) → IsAnswering t l g (m ∷ []) → StopsLast l → EndsBy BrokenOff l → m ≡ Stop
stop_waits t l g m a (inl on) ends = absurd (not_broken l on ends)
stop_waits t l g m a (inr h) ends =
    sym (same_from_push (answers_from t Between [] h.0) g Stop m (sym (ap (answers_from t Between []) h.1 ∙ answers_from-append t Between [] h.0 (Stop ∷ []))
    ∙ a.given)).1

-- it has come to its end
stopped_after : (l : List Message) → StopsLast l → EndsBy BrokenOff l → place_of Between l ≡ After
stopped_after l (inl on) ends = absurd (not_broken l on ends)
stopped_after l (inr h) ends = ap (place_of Between) h.1 ∙ place_of-append Between h.0 (Stop ∷ [])

-- rows are given within the stream
no_rows_after : {W : Type 0} (due kept : W → List (List ℕ)) (work : W) (place : Place) (phase : Phase) → GivesRows phase → SuitsPlace due kept work place phase
    → place ≡ After → ⊥
no_rows_after due kept work Between phase gives suits e = cc
no_rows_after due kept work (Inside s y) phase gives suits e = cc
no_rows_after due kept work After Idle gives suits e = gives
no_rows_after due kept work After Rows gives suits e = suits
no_rows_after due kept work After RowsAndEnd gives suits e = suits
no_rows_after due kept work After GivesEnd gives suits e = gives
no_rows_after due kept work After GivesStop gives suits e = gives
no_rows_after due kept work After Done gives suits e = gives

-- of some messages that are the first of one, there is that one
one_alone : (message : Message) (first rest : List Message) → 1 ≤ length first → message ∷ [] ≡ first ++ rest → first ≡ message ∷ []
one_alone message [] rest some e = let no : ⊥ = omega (arith, some) in absurd no
one_alone message (m ∷ []) rest some e = ap (λ (x : Message). x ∷ []) cc
one_alone message (m ∷ n ∷ first) rest some e = absurd cc

alone : (phase : Phase) (head : Option HeadValue) (ahead : Option (List (List ℕ))) (due : List (List ℕ)) (first rest : List Message) → 1 ≤ length first
    → waiting_by phase head ahead due ≡ first ++ rest → (GivesRows phase → ⊥)
    → (m : Message) × (first ≡ m ∷ []) × (waiting_by phase head ahead due ≡ m ∷ [])
alone Idle head ahead due [] rest some e none = let no : ⊥ = omega (arith, some) in absurd no
alone Idle head ahead due (m ∷ first) rest some e none = absurd cc
alone Rows head ahead due first rest some e none = absurd (none tt)
alone RowsAndEnd head ahead due first rest some e none = absurd (none tt)
alone GivesEnd head ahead due first rest some e none = (StreamEnd, one_alone StreamEnd first rest some e, refl)
alone GivesStop head ahead due first rest some e none = (Stop, one_alone Stop first rest some e, refl)
alone Done head ahead due [] rest some e none = let no : ⊥ = omega (arith, some) in absurd no
alone Done head ahead due (m ∷ first) rest some e none = absurd cc

pub gave_stop : {W : Type 0} (tool_at : W → Tool) (ready_for : W → Shape → List (List ℕ) → Type 0) (due kept : W → List (List ℕ)) (old : StateValue W) (new : W)
    (after : Pending) (p : Packet) (t : Tool) (l g : List Message)
    → IsAt tool_at ready_for due kept old t l g → IsGiven tool_at ready_for due kept old.work old.pending new after (Some p) → EndsBy BrokenOff l
    → messages_in p ≡ Stop ∷ []
gave_stop tool_at ready_for due kept old new after p t l g at gives ends =
    let stops = lawful_stops Between l at.answering.lawful in
    let last = alone old.pending.phase old.pending.head old.pending.ahead (due old.work) (messages_in p) (waiting_in after (due new)) gives.none_due.2
    gives.waits
    (λ rows. no_rows_after due kept old.work old.place old.pending.phase rows at.suits (at.place ∙ stopped_after l stops ends)) in
    last.1 ∙ ap (λ (m : Message). m ∷ []) (stop_waits t l g last.0 (subst (IsAnswering t l g) last.2 at.answering) stops ends)

-- ---- whether one waits or none

pub given_by : {W : Type 0} (tool_at : W → Tool) (ready_for : W → Shape → List (List ℕ) → Type 0) (due kept : W → List (List ℕ)) (old : StateValue W) (new : W)
    (after : Pending) (fault : Option ToolFault) (given : Option Packet)
    → IsGiven tool_at ready_for due kept old.work old.pending new after given
    → IfSome given (λ p. (t : Tool) (l g : List Message) → IsAt tool_at ready_for due kept old t l g
    → IsAt tool_at ready_for due kept (state_value new old.place after fault) t l (g ++ messages_in p))
given_by tool_at ready_for due kept old new after fault None gives = tt
given_by tool_at ready_for due kept old new after fault (Some p) gives = λ t l g at. gave tool_at ready_for due kept old new after fault p t l g at gives

pub stop_alone_by : {W : Type 0} (tool_at : W → Tool) (ready_for : W → Shape → List (List ℕ) → Type 0) (due kept : W → List (List ℕ)) (old : StateValue W)
    (new : W) (after : Pending) (given : Option Packet)
    → IsGiven tool_at ready_for due kept old.work old.pending new after given
    → IfSome given (λ p. (t : Tool) (l g : List Message) → IsAt tool_at ready_for due kept old t l g → EndsBy BrokenOff l → messages_in p ≡ Stop ∷ [])
stop_alone_by tool_at ready_for due kept old new after None gives = tt
stop_alone_by tool_at ready_for due kept old new after (Some p) gives = λ t l g at ends. gave_stop tool_at ready_for due kept old new after p t l g at gives
    ends

pub full_by : {W : Type 0} (tool_at : W → Tool) (ready_for : W → Shape → List (List ℕ) → Type 0) (due kept : W → List (List ℕ)) (old : StateValue W) (new : W)
    (after : Pending) (fault : Option ToolFault) (given : Option Packet)
    → IsGiven tool_at ready_for due kept old.work old.pending new after given
    → IfNone given
    ((is_all_given after ≡ true)
    × ((t : Tool) (l g : List Message) → IsAt tool_at ready_for due kept old t l g
    → IsAt tool_at ready_for due kept (state_value new old.place after fault) t l g × AnswersInFull t l g))
full_by tool_at ready_for due kept old new after fault None gives =
    (ap is_idle gives.none_due, λ t l g at. is_full tool_at ready_for due kept old new after fault t l g at gives)
full_by tool_at ready_for due kept old new after fault (Some p) gives = tt

-- ---- want of memory

-- a lawful list that hasn't come to its end goes on
more_of_place : (place : Place) (l : List Message) → IsLawfulFrom place l → (place_of place l ≡ After → ⊥) → EndsBy More l
more_of_place place [] h not = refl
more_of_place place (Begin head ∷ []) h not = refl
more_of_place place (Row row ∷ []) h not = refl
more_of_place place (ImageEnd ∷ []) h not = refl
more_of_place place (StreamEnd ∷ []) h not = absurd (not refl)
more_of_place place (Stop ∷ []) h not = absurd (not refl)
more_of_place place (Begin head ∷ n ∷ l) h not = (refl, more_of_place (place_after place (Begin head)) (n ∷ l) h.1 not)
more_of_place place (Row row ∷ n ∷ l) h not = (refl, more_of_place (place_after place (Row row)) (n ∷ l) h.1 not)
more_of_place place (ImageEnd ∷ n ∷ l) h not = (refl, more_of_place (place_after place ImageEnd) (n ∷ l) h.1 not)
more_of_place place (StreamEnd ∷ n ∷ l) h not = absurd h.1.0
more_of_place place (Stop ∷ n ∷ l) h not = absurd h.1.0

-- so does each prefix of what goes on
more_of_prefix : (a b : List Message) → EndsBy More (a ++ b) → EndsBy More a
more_of_prefix [] b e = refl
more_of_prefix (m ∷ []) [] e = e
more_of_prefix (m ∷ []) (n ∷ b) e = e.0
more_of_prefix (m ∷ n ∷ a) b e = (e.0, more_of_prefix (n ∷ a) b e.1)

pub wanted_memory : {W : Type 0} (tool_at : W → Tool) (ready_for : W → Shape → List (List ℕ) → Type 0) (due kept : W → List (List ℕ)) (old : StateValue W)
    (t : Tool) (l g : List Message)
    → IsAt tool_at ready_for due kept old t l g → GivesRows old.pending.phase → EndsBy More g
wanted_memory tool_at ready_for due kept old t l g at rows =
    let goes : EndsBy More l =
    more_of_place Between l at.answering.lawful (λ e. no_rows_after due kept old.work old.place old.pending.phase rows at.suits (at.place ∙ e)) in
    more_of_prefix g (waiting_in old.pending (due old.work)) (subst (EndsBy More) at.answering.given (answers_end_so t Between [] l More goes))
