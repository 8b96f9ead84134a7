-- How a tool at work takes messages, and refuses the first of them.
use Rattle.pnm_filters.proofs.Words.{◌≡◌, ◌⊎◌, inl, inr, ℕ, Bool, true, List, [], ◌∷◌, ◌++◌, refl, sym, ap, subst, ◌∙◌, append-nil, length, Option, Some, None}
use Rattle.pnm_filters.proofs.Words.{Err, Shape, Message, Packet, Begin, Row, ImageEnd, StreamEnd, Stop, Place, Between, Accepts, IsLawfulFrom, place_of}
use Rattle.pnm_filters.proofs.Words.{lawful_append, place_of-append, ToolFault, CutOutside, ChannelOutside, TooLarge, OutOfOrder, Memory, Tool, AllMayCome}
use Rattle.pnm_filters.proofs.Words.{Begins, RefusesFirst, RefusesHead, Judges, IsAnswering, answers_from, rows_come, AreTaken, answering_answers}
use Rattle.pnm_filters.proofs.Words.{answers_from-append, taken_append, head_is_refused_by_name, tool_answers_images, Pending, Phase, Idle, Rows, RowsAndEnd}
use Rattle.pnm_filters.proofs.Words.{Done, GivesEnd, GivesStop, is_idle, waiting_by, waiting_in, StateValue, IsAt, IsReadyFor, SuitsPlace, state_value}
use Rattle.pnm_filters.proofs.Words.{IsSoundState, AreAccepted, IsFirstRefused, IsGiven}
use Rattle.pnm_filters.proofs.TakingSteps.{come_append}

-- where all was given nothing waits
pub idle_is : (phase : Phase) → is_idle phase ≡ true → phase ≡ Idle
idle_is Idle e = refl
idle_is Rows e = absurd cc
idle_is RowsAndEnd e = absurd cc
idle_is GivesEnd e = absurd cc
idle_is GivesStop e = absurd cc
idle_is Done e = absurd cc

-- more messages were accepted, and the answers to them wait
answering_more : (t : Tool) (l g before after ms : List Message) → IsAnswering t l g before → before ≡ [] → IsLawfulFrom (place_of Between l) ms
    → AreTaken t ms → after ≡ answers_from t (place_of Between l) (rows_come [] l) ms → IsAnswering t (l ++ ms) g after
answering_more t l g before after ms a none lawful taken answer = record {
  lawful = lawful_append Between l ms a.lawful lawful;
  taken = taken_append t l ms a.taken taken;
  given = answers_from-append t Between [] l ms
      ∙ ap (λ (x : List Message). x ++ answers_from t (place_of Between l) (rows_come [] l) ms)
      (a.given ∙ ap (λ (x : List Message). g ++ x) none ∙ append-nil g)
      ∙ ap (λ (x : List Message). g ++ x) (sym answer);
}

pub fed : {W : Type 0} (tool_at : W → Tool) (ready_for : W → Shape → List (List ℕ) → Type 0) (due kept : W → List (List ℕ)) (old : StateValue W) (new : W)
    (to : Place) (ms : List Message) (pending : Pending) (fault : Option ToolFault) (t : Tool) (l g : List Message)
    → IsAt tool_at ready_for due kept old t l g → is_idle old.pending.phase ≡ true → IsLawfulFrom old.place ms → to ≡ place_of old.place ms
    → AreAccepted tool_at ready_for due kept old.work old.place ms new pending
    → IsAt tool_at ready_for due kept (state_value new to pending fault) t (l ++ ms) g
fed tool_at ready_for due kept old new to ms pending fault t l g at is_given lawful leads accepted =
    let come : List (List ℕ) = rows_come [] l in
    let idle : old.pending.phase ≡ Idle = idle_is old.pending.phase is_given in
    let answer : waiting_in pending (due new) ≡ answers_from t (place_of Between l) come ms = accepted.answer come at.ready
    ∙ ap (λ (k : Tool). answers_from k old.place come ms) at.tool ∙ ap (λ (p : Place). answers_from t p come ms) at.place in
    let more = answering_more t l g (waiting_in old.pending (due old.work)) (waiting_in pending (due new)) ms at.answering
    (ap (λ (p : Phase). waiting_by p old.pending.head old.pending.ahead (due old.work)) idle) (subst (λ (p : Place). IsLawfulFrom p ms) at.place lawful)
    (subst (λ (k : Tool). AreTaken k ms) at.tool accepted.taken) answer in
    record {
      tool = accepted.tool ∙ at.tool;
      options = at.options;
      answering = more;
      place = leads ∙ ap (λ (p : Place). place_of p ms) at.place ∙ sym (place_of-append Between l ms);
      ready = subst (λ (p : Place). IsReadyFor ready_for new p (rows_come [] (l ++ ms))) (sym leads)
          (subst (IsReadyFor ready_for new (place_of old.place ms)) (sym (come_append [] l ms)) (accepted.ready come at.ready));
      suits = subst (λ (p : Place). SuitsPlace due kept new p pending.phase) (sym leads)
          (accepted.suits (subst (SuitsPlace due kept old.work old.place) idle at.suits));
      answers = answering_answers t (l ++ ms) g (waiting_in pending (due new)) (tool_answers_images t at.options) more;
    }

-- a state stays sound, as messages are accepted
pub sound_fed : {W : Type 0} (tool_at : W → Tool) (ready_for : W → Shape → List (List ℕ) → Type 0) (due kept : W → List (List ℕ)) (old new : W)
    (from to : Place) (ms : List Message) (before after : Pending) (fault : Option ToolFault) → fault ≡ None
    → IsSoundState ready_for due kept old from before fault → is_idle before.phase ≡ true → to ≡ place_of from ms
    → AreAccepted tool_at ready_for due kept old from ms new after → IsSoundState ready_for due kept new to after fault
sound_fed tool_at ready_for due kept old new from to ms before after fault none is is_given leads accepted =
    let sound : IsSoundState ready_for due kept old from before None = subst (IsSoundState ready_for due kept old from before) none is in
    let idle : before.phase ≡ Idle = idle_is before.phase is_given in
    subst (IsSoundState ready_for due kept new to after) (sym none) (
      (
        rows_come sound.0.0 ms,
        subst (λ (p : Place). IsReadyFor ready_for new p (rows_come sound.0.0 ms)) (sym leads) (accepted.ready sound.0.0 sound.0.1),
      ),
      subst (λ (p : Place). SuitsPlace due kept new p after.phase) (sym leads) (accepted.suits (subst (SuitsPlace due kept old from) idle sound.1)),
    )

-- and as some are given
pub sound_given : {W : Type 0} (tool_at : W → Tool) (ready_for : W → Shape → List (List ℕ) → Type 0) (due kept : W → List (List ℕ)) (old new : W)
    (place : Place) (given : Option Packet) (before after : Pending) (fault : Option ToolFault) → fault ≡ None
    → IsSoundState ready_for due kept old place before fault
    → IsGiven tool_at ready_for due kept old before new after given → IsSoundState ready_for due kept new place after fault
sound_given tool_at ready_for due kept old new place given before after fault none is gave =
    let sound : IsSoundState ready_for due kept old place before None = subst (IsSoundState ready_for due kept old place before) none is in
    subst (IsSoundState ready_for due kept new place after) (sym none)
    ((sound.0.0, gave.ready place sound.0.0 sound.1 sound.0.1), gave.suits place sound.1)

-- ---- a refusal comes where it should

-- want of memory is no refusal of a head
never_memory : (t : Tool) (m : Message) → RefusesHead t m Memory → ⊥
never_memory t (Begin head) r = head_is_refused_by_name t head Memory r
never_memory t (Row row) r = r
never_memory t ImageEnd r = r
never_memory t StreamEnd r = r
never_memory t Stop r = r

refused_head : (all_given : Bool) (t : Tool) (l : List Message) (m : Message) (fault : ToolFault) → (all_given ≡ true) × Accepts (place_of Between l) m
    → RefusesHead t m fault ⊎ ((fault ≡ Memory) × Begins t m) → Judges all_given t l m (Err fault)
refused_head all_given t l m CutOutside may (inl r) = (may, r)
refused_head all_given t l m ChannelOutside may (inl r) = (may, r)
refused_head all_given t l m TooLarge may (inl r) = (may, r)
refused_head all_given t l m OutOfOrder may (inl r) = inr r
refused_head all_given t l m Memory may (inl r) = absurd (never_memory t m r)
refused_head all_given t l m CutOutside may (inr r) = absurd cc
refused_head all_given t l m ChannelOutside may (inr r) = absurd cc
refused_head all_given t l m TooLarge may (inr r) = absurd cc
refused_head all_given t l m OutOfOrder may (inr r) = absurd cc
refused_head all_given t l m Memory may (inr r) = (may, r.1)

pub judged : {W : Type 0} (tool_at : W → Tool) (ready_for : W → Shape → List (List ℕ) → Type 0) (due kept : W → List (List ℕ)) (old : StateValue W)
    (ms : List Message) (fault : ToolFault) (t : Tool) (l g : List Message)
    → IsAt tool_at ready_for due kept old t l g → is_idle old.pending.phase ≡ true → IsLawfulFrom old.place ms
    → IsFirstRefused (tool_at old.work) ms fault → RefusesFirst (is_idle old.pending.phase) t l ms fault
judged tool_at ready_for due kept old [] fault t l g at is_given lawful refused = refused
judged tool_at ready_for due kept old (m ∷ ms) fault t l g at is_given lawful refused =
    refused_head (is_idle old.pending.phase) t l m fault (is_given, subst (λ (p : Place). Accepts p m) at.place lawful.0)
    (subst (λ (k : Tool). RefusesHead k m fault ⊎ ((fault ≡ Memory) × Begins k m)) at.tool refused)

-- a message alone that can't come is out of order
pub judged_out_of_order : {W : Type 0} (tool_at : W → Tool) (ready_for : W → Shape → List (List ℕ) → Type 0) (due kept : W → List (List ℕ))
    (old : StateValue W) (ms : List Message) (t : Tool) (l g : List Message) → IsAt tool_at ready_for due kept old t l g → length ms ≡ 1
    → ((is_idle old.pending.phase ≡ true) × IsLawfulFrom old.place ms → ⊥) → RefusesFirst (is_idle old.pending.phase) t l ms OutOfOrder
judged_out_of_order tool_at ready_for due kept old [] t l g at one not = absurd cc
judged_out_of_order tool_at ready_for due kept old (m ∷ []) t l g at one not =
    inl (λ may. not (may.0, (subst (λ (p : Place). Accepts p m) (sym at.place) may.1, tt)))
judged_out_of_order tool_at ready_for due kept old (m ∷ n ∷ ms) t l g at one not = absurd cc

-- messages may come, by what was accepted
pub all_may_come : {W : Type 0} (tool_at : W → Tool) (ready_for : W → Shape → List (List ℕ) → Type 0) (due kept : W → List (List ℕ)) (old : StateValue W)
    (ms : List Message) (t : Tool) (l g : List Message) → IsAt tool_at ready_for due kept old t l g → is_idle old.pending.phase ≡ true
    → IsLawfulFrom old.place ms → AllMayCome (is_idle old.pending.phase) l ms
all_may_come tool_at ready_for due kept old ms t l g at is_given lawful = (is_given, subst (λ (p : Place). IsLawfulFrom p ms) at.place lawful)

pub no_fault : (fault : Option ToolFault) (k : ToolFault) → fault ≡ None → fault ≡ Some k → ⊥
no_fault fault k none some = cc
