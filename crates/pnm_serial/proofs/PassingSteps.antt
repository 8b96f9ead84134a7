-- What passes through the stages.
use Rattle.pnm_serial.proofs.Words.{◌≡◌, ◌<◌, ◌≤◌, ◌-◌, ℕ, Bool, true, List, [], ◌∷◌, ◌++◌, Option, sym, ap, subst, ◌∙◌, append_assoc, length, take, drop}
use Rattle.pnm_serial.proofs.Words.{get_or, arith, slice_set, take_all, drop_all, nat_tests, mid_of, put_mid, Form, Message, More, EndsBy, ToolFault, Tool}
use Rattle.pnm_serial.proofs.Words.{FusedFilter, AreLawfulTools, AreSound, FilterAt, FilterBusy, waiting_at, HasFedNext, sound_prefix, GivesAnswers, FusedSink}
use Rattle.pnm_serial.proofs.Words.{HasTaken, FiltersAt, FiltersBusy, FeedsThrough, GivesThrough}
use Rattle.std.proofs.Common.{append-nil}
use Rattle.std.specs.Prelude.{◌==◌}
use Rattle.pnm_serial.proofs.SoundSteps.{busy_is_sound, goes_on_before}

-- ---- stages one behind another

-- the messages that the first of the stages is still to give, at most
abbrev pub first_waiting : {F : Type 0} → (F → ℕ) → List (FusedFilter F) → ℕ
first_waiting waiting [] = 0
first_waiting waiting (stage ∷ stages) = waiting_at waiting stage

-- the part of a list after its first member, and another list in its place
part_is : {X : Type 0} (x : X) (xs : List X) → mid_of 1 (length (x ∷ xs) - 1) (x ∷ xs) ≡ xs
part_is {X = X} x xs = ap (λ (k : ℕ). take k xs) (omega arith) ∙ take_all (length xs) xs (omega arith)

put_is : {X : Type 0} (x : X) (xs ys : List X) → put_mid 1 (length (x ∷ xs) - 1) (x ∷ xs) ys ≡ x ∷ ys
put_is {X = X} x xs ys =
    let none : drop (length (x ∷ xs) - 1) xs ≡ [] = ap (λ (k : ℕ). drop k xs) (omega arith) ∙ drop_all (length xs) xs (omega arith) in
    ap (λ (l : List X). x ∷ (ys ++ l)) none ∙ ap (λ (l : List X). x ∷ l) (append-nil ys)

-- ---- what has passed

-- nothing more
same_taken : {W : Type 0} (held : W → Option (List ℕ)) (failures : W → ℕ) (form : Form) (start : W) (messages : List Message) (d : FusedSink W)
    → HasTaken held failures form start messages d → HasTaken held failures form start (messages ++ []) d
same_taken held failures form start messages d is = subst (λ (x : List Message). HasTaken held failures form start x d) (sym (append-nil messages)) is

no_stages : {F : Type 0} (at : F → Tool → List Message → List Message → Type 0) (all_given : F → Bool) (stopped : F → Option ToolFault) (tools : List Tool)
    (l g passed : List Message) → FiltersAt at all_given stopped [] tools l g → FiltersAt at all_given stopped [] tools (l ++ passed) (g ++ passed)
no_stages at all_given stopped [] l g passed is = ap (λ (x : List Message). x ++ passed) is
no_stages at all_given stopped (tool ∷ tools) l g passed is = absurd is

-- without a stage the messages are what is given
pub passes_on : {F W : Type 0} {at : F → Tool → List Message → List Message → Type 0} {all_given : F → Bool} {stopped : F → Option ToolFault}
    {held : W → Option (List ℕ)} {failures : W → ℕ} (stages : List (FusedFilter F)) {passed : List Message} {before after : FusedSink W}
    → (length stages == 0) ≡ true
    → ((form : Form) (start : W) (messages : List Message) → HasTaken held failures form start messages before → HasTaken held failures form start (messages
    ++ passed) after) → FeedsThrough at all_given stopped held failures stages passed stages before after
passes_on {at} {all_given} {stopped} [] {passed} none taken =
    record { more = passed; stages = λ tools l g lawful sound is. no_stages at all_given stopped tools l g passed is; taken = taken }
passes_on (s ∷ ss) none taken = absurd (grind (arith, nat_tests))

-- ---- the first stage is fed

-- it has taken messages, and may give others
fed_first : {F : Type 0} (at : F → Tool → List Message → List Message → Type 0) (all_given : F → Bool) (stopped : F → Option ToolFault)
    (stages : List (FusedFilter F)) {was : FusedFilter F} (other fed : FusedFilter F) (tools : List Tool) (l g passed : List Message)
    → was ≡ get_or stages 0 other → 0 < length stages
    → ((tool : Tool) (l g : List Message) → FilterAt at all_given stopped was tool l g → FilterBusy at stopped fed tool (l ++ passed) g)
    → FiltersAt at all_given stopped stages tools l g → FiltersBusy at all_given stopped (slice_set stages 0 fed) tools (l ++ passed) g
fed_first at all_given stopped [] other fed tools l g passed first some feeds is = absurd (omega (arith, some))
fed_first at all_given stopped (s ∷ ss) other fed [] l g passed first some feeds is = absurd is
fed_first at all_given stopped (s ∷ ss) other fed (tool ∷ tools) l g passed first some feeds is =
    (is.0, feeds tool l is.0 (subst (λ (x : FusedFilter _). FilterAt at all_given stopped x tool l is.0) (sym first) is.1), is.2)

-- what it gave has passed through the others, and then so has what was left
pub feeds_next : {F W : Type 0} (at : F → Tool → List Message → List Message → Type 0) (all_given : F → Bool) (stopped : F → Option ToolFault)
    (held : W → Option (List ℕ)) (failures : W → ℕ) (stages now new : List (FusedFilter F)) (was other fed : FusedFilter F) (passed left : List Message)
    (before d after : FusedSink W) → was ≡ get_or stages 0 other → 0 < length stages → HasFedNext at all_given stopped was fed passed left
    → GivesThrough held failures (FiltersBusy at all_given stopped (slice_set stages 0 fed)) (FiltersAt at all_given stopped now) before d
    → FeedsThrough at all_given stopped held failures now left new d after
    → FeedsThrough at all_given stopped held failures stages passed new before after
feeds_next at all_given stopped held failures stages now new was other fed passed left before d after first some has gives then = record {
  more = gives.more ++ then.more;
  stages = λ tools l g lawful sound is.
      let parts : (l ++ has.fed) ++ left ≡ l ++ passed = append_assoc l has.fed left ∙ ap (λ (x : List Message). l ++ x) (sym has.parts) in
      let sound_then : AreSound ((l ++ has.fed) ++ left) = subst AreSound (sym parts) sound in
      let first_at = gives.stages tools (l ++ has.fed) g lawful (sound_prefix (l ++ has.fed) left sound_then)
      (fed_first at all_given stopped stages other fed tools l g has.fed first some has.busy is) in
      subst (λ (x : List Message). FiltersAt at all_given stopped new tools x (g ++ (gives.more ++ then.more))) parts
      (subst (FiltersAt at all_given stopped new tools ((l ++ has.fed) ++ left)) (append_assoc g gives.more then.more)
      (then.stages tools (l ++ has.fed) (g ++ gives.more) lawful sound_then first_at));
  taken = λ form start messages is. subst (λ (x : List Message). HasTaken held failures form start x after) (append_assoc messages gives.more then.more)
      (then.taken form start (messages ++ gives.more) (gives.taken form start messages is));
}

-- nothing is left for it, or it has refused
drops_first : {F : Type 0} (at : F → Tool → List Message → List Message → Type 0) (all_given : F → Bool) (stopped : F → Option ToolFault)
    (stages : List (FusedFilter F)) {was : FusedFilter F} (other next : FusedFilter F) (tools : List Tool) (l g left : List Message)
    → was ≡ get_or stages 0 other → 0 < length stages
    → ((tool : Tool) (g : List Message) → FilterAt at all_given stopped was tool l g → FilterAt at all_given stopped next tool (l ++ left) g)
    → FiltersAt at all_given stopped stages tools l g → FiltersAt at all_given stopped (slice_set stages 0 next) tools (l ++ left) g
drops_first at all_given stopped [] other next tools l g left first some drops is = absurd (omega (arith, some))
drops_first at all_given stopped (s ∷ ss) other next [] l g left first some drops is = absurd is
drops_first at all_given stopped (s ∷ ss) other next (tool ∷ tools) l g left first some drops is =
    (is.0, drops tool is.0 (subst (λ (x : FusedFilter _). FilterAt at all_given stopped x tool l is.0) (sym first) is.1), is.2)

pub drops_rest : {F W : Type 0} (at : F → Tool → List Message → List Message → Type 0) (all_given : F → Bool) (stopped : F → Option ToolFault)
    (held : W → Option (List ℕ)) (failures : W → ℕ) (stages : List (FusedFilter F)) (was other next : FusedFilter F) (left : List Message) (d : FusedSink W)
    → was ≡ get_or stages 0 other → 0 < length stages
    → ((tool : Tool) (l g : List Message) → FilterAt at all_given stopped was tool l g → (1 ≤ length left → EndsBy More l)
    → FilterAt at all_given stopped next tool (l ++ left) g)
    → FeedsThrough at all_given stopped held failures stages left (slice_set stages 0 next) d d
drops_rest at all_given stopped held failures stages was other next left d first some drops = record {
  more = [];
  stages = λ tools l g lawful sound is.
      subst (FiltersAt at all_given stopped (slice_set stages 0 next) tools (l ++ left)) (sym (append-nil g))
      (drops_first at all_given stopped stages other next tools l g left first some
      (λ tool g is. drops tool l g is (goes_on_before l left sound)) is);
  taken = λ form start messages is. same_taken held failures form start messages d is;
}

-- ---- what the first stage gives

module _ {F W : Type 0} {at : F → Tool → List Message → List Message → Type 0} {all_given : F → Bool} {stopped : F → Option ToolFault}
    {held : W → Option (List ℕ)} {failures : W → ℕ} {ys : List (FusedFilter F)} {given : List Message} {before after : FusedSink W} where
  -- it gave something, which has passed through the others
  gives_next : GivesAnswers at → (s next : FusedFilter F) {ss : List (FusedFilter F)}
      → ((tool : Tool) (l g : List Message) → FilterBusy at stopped s tool l g → FilterBusy at stopped next tool l (g ++ given))
      → (passes : FeedsThrough at all_given stopped held failures ss given ys before after) (tools : List Tool) {l : List Message} (g : List Message)
      → AreLawfulTools tools → AreSound l → FiltersBusy at all_given stopped (s ∷ ss) tools l g
      → FiltersBusy at all_given stopped (next ∷ ys) tools l (g ++ passes.more)
  gives_next law s next gives passes [] g lawful sound is = absurd is
  gives_next law s next gives passes (tool ∷ tools) {l} g lawful sound is =
      let next_at = gives tool l is.0 is.1 in (
        is.0 ++ given,
        next_at,
        passes.stages tools is.0 g lawful.1 (busy_is_sound at stopped law next tool lawful.0 sound next_at) is.2,
      )

  pub gives_on : GivesAnswers at → (stages new : List (FusedFilter F)) {was : FusedFilter F} (other next : FusedFilter F) {d : FusedSink W}
      → was ≡ get_or stages 0 other → 0 < length stages
      → ((tool : Tool) (l g : List Message) → FilterBusy at stopped was tool l g → FilterBusy at stopped next tool l (g ++ given))
      → FeedsThrough at all_given stopped held failures (mid_of 1 (length (slice_set stages 0 next) - 1) (slice_set stages 0 next)) given ys before d
      → GivesThrough held failures (FiltersBusy at all_given stopped (put_mid 1 (length (slice_set stages 0 next) - 1) (slice_set stages 0 next) ys))
      (FiltersAt at all_given stopped new) d after → GivesThrough held failures (FiltersBusy at all_given stopped stages)
      (FiltersAt at all_given stopped new) before after
  gives_on law [] new other next first some gives passes then = absurd (omega (arith, some))
  gives_on law (s ∷ ss) new other next {d} first some gives passes then =
      let through = subst (λ (x : List (FusedFilter _)). FeedsThrough at all_given stopped held failures x given ys before d) (part_is next ss) passes in
      let gives_then = subst
      (λ (x : List (FusedFilter _)). GivesThrough held failures (FiltersBusy at all_given stopped x) (FiltersAt at all_given stopped new) d after)
      (put_is next ss ys) then in
      record {
        more = through.more ++ gives_then.more;
        stages = λ tools l g lawful sound is. subst (FiltersAt at all_given stopped new tools l) (append_assoc g through.more gives_then.more)
            (gives_then.stages tools l (g ++ through.more) lawful sound (Rattle.pnm_serial.proofs.PassingSteps.gives_next law s next
            (λ tool l g is. gives tool l g (subst (λ (x : FusedFilter _). FilterBusy at stopped x tool l g) (sym first) is)) through tools g lawful sound is));
        taken = λ form start messages is.
            subst (λ (x : List Message). HasTaken held failures form start x after) (append_assoc messages through.more gives_then.more)
            (gives_then.taken form start (messages ++ through.more) (through.taken form start messages is));
      }

-- it has given all
is_done : {F : Type 0} (at : F → Tool → List Message → List Message → Type 0) (all_given : F → Bool) (stopped : F → Option ToolFault)
    (now : List (FusedFilter F)) {was : FusedFilter F} (other next : FusedFilter F) (tools : List Tool) (l g : List Message) → was ≡ get_or now 0 other
    → ((tool : Tool) (l g : List Message) → FilterBusy at stopped was tool l g → FilterAt at all_given stopped next tool l g)
    → FiltersBusy at all_given stopped now tools l g → FiltersAt at all_given stopped (slice_set now 0 next) tools l g
is_done at all_given stopped [] other next tools l g first full is = absurd is
is_done at all_given stopped (s ∷ ss) other next [] l g first full is = absurd is
is_done at all_given stopped (s ∷ ss) other next (tool ∷ tools) l g first full is =
    (is.0, full tool l is.0 (subst (λ (x : FusedFilter _). FilterBusy at stopped x tool l is.0) (sym first) is.1), is.2)

pub gives_all : {F W : Type 0} (at : F → Tool → List Message → List Message → Type 0) (all_given : F → Bool) (stopped : F → Option ToolFault)
    (held : W → Option (List ℕ)) (failures : W → ℕ) (stages : List (FusedFilter F)) (was other next : FusedFilter F) (d : FusedSink W)
    → was ≡ get_or stages 0 other
    → ((tool : Tool) (l g : List Message) → FilterBusy at stopped was tool l g → FilterAt at all_given stopped next tool l g)
    → GivesThrough held failures (FiltersBusy at all_given stopped stages) (FiltersAt at all_given stopped (slice_set stages 0 next)) d d
gives_all at all_given stopped held failures stages was other next d first full = record {
  more = [];
  stages = λ tools l g lawful sound is. subst (FiltersAt at all_given stopped (slice_set stages 0 next) tools l) (sym (append-nil g))
      (is_done at all_given stopped stages other next tools l g first full is);
  taken = λ form start messages is. same_taken held failures form start messages d is;
}
