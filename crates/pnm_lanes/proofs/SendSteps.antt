-- How the lanes are sent their parts, one lane after another.
use Rattle.pnm_lanes.proofs.Words.{◌≡◌, ◌⊎◌, inl, inr, ℕ, ◌+◌, ◌<◌, ◌≤◌, List, [], ◌++◌, length, get_or, Option, None, Some, refl, sym, ap, subst, ◌∙◌}
use Rattle.pnm_lanes.proofs.Words.{append-nil, arith, cases_eq, slice_set, IsSome, IfSome, Sender, sent, SameSender, Message, Memory, StageEnd, Fault, PeerGone}
use Rattle.pnm_lanes.proofs.Words.{same_output, itself_output, AtEach, IsSameEnd, IsSentTo, IsSentPart, HasSentParts}
use Rattle.pnm_lanes.proofs.EachLaws.{each-map, each-itself, each-then, each-count, each-below, each-set}

-- ---- one lane after another

-- a lane was sent its part, if its turn has come; or nothing, if that hasn't, or if not each lane could be sent its own
abbrev pub IsSentSoFar : (ℕ → ℕ) → ℕ → (ℕ → List Message) → Option StageEnd → ℕ → Sender → Sender → Type 0
IsSentSoFar turn next part unsent lane old now = SameSender old now
    × (((turn lane < next) × (sent now ≡ sent old ++ part lane)) ⊎ ((sent now ≡ sent old) × (IsSome unsent ⊎ (next ≤ turn lane))))

-- so were all, by the turn of each
pub record IsSending (turn : ℕ → ℕ) (next : ℕ) (part : ℕ → List Message) (unsent : Option StageEnd) (olds nows : List Sender) : Type 0 where
  pub lanes : AtEach (IsSentSoFar turn next part unsent) olds nows
  pub reason : IfSome unsent (λ end. (end ≡ Fault Memory) ⊎ (end ≡ PeerGone))

pub sends_nothing : (turn : ℕ → ℕ) (part : ℕ → List Message) (outputs : List Sender) → IsSending turn 0 part None outputs outputs
sends_nothing turn part outputs = record {
  lanes = each-itself (IsSentSoFar turn 0 part None) 0 outputs (λ n x. (itself_output x, inr (refl, inr (omega arith))));
  reason = tt;
}

pub sending_count : {turn : ℕ → ℕ} {next : ℕ} {part : ℕ → List Message} {unsent : Option StageEnd} {olds nows : List Sender}
    → IsSending turn next part unsent olds nows → length nows ≡ length olds
sending_count {turn} {next} {part} {unsent} {olds} {nows} sending = each-count (IsSentSoFar turn next part unsent) 0 olds nows sending.lanes

next_lane : (turn : ℕ → ℕ) (next : ℕ) (part : ℕ → List Message) (unsent : Option StageEnd) (at lane : ℕ) (old now new : Sender) → turn at ≡ next
    → (turn lane ≡ next → lane ≡ at) → IsSentSoFar turn next part unsent lane old now → IsSentTo at (part at) lane now new
    → IsSentSoFar turn (next + 1) part unsent lane old new
next_lane turn next part unsent at lane old now new here only (same, inl (lt, is)) (ring, inl (its, added)) =
    let late : turn lane ≡ next = ap turn its ∙ here in absurd (omega (arith, lt, late))
next_lane turn next part unsent at lane old now new here only (same, inl (lt, is)) (ring, inr (other, none)) =
    (same_output old now new same ring, inl (omega (arith, lt), none ∙ is))
next_lane turn next part unsent at lane old now new here only (same, inr (nothing, why)) (ring, inl (its, added)) =
    let now_is : turn lane ≡ next = ap turn its ∙ here in (
      same_output old now new same ring,
      inl (
        omega (arith, now_is),
        added ∙ ap (λ (x : List Message). x ++ part at) nothing ∙ ap (λ (n : ℕ). sent old ++ part n) (sym its),
      ),
    )
next_lane turn next part unsent at lane old now new here only (same, inr (nothing, inl some)) (ring, inr (other, none)) =
    (same_output old now new same ring, inr (none ∙ nothing, inl some))
next_lane turn next part unsent at lane old now new here only (same, inr (nothing, inr le)) (ring, inr (other, none)) =
    let differs : turn lane ≡ next → ⊥ = λ is. other (only is) in
    (same_output old now new same ring, inr (none ∙ nothing, inr (grind (arith, le, differs))))

missed_lane : (turn : ℕ → ℕ) (next : ℕ) (part : ℕ → List Message) (unsent : Option StageEnd) (lane : ℕ) (old now new : Sender)
    → IsSentSoFar turn next part unsent lane old now → IsSameEnd lane now new → IsSentSoFar turn (next + 1) part (Some PeerGone) lane old new
missed_lane turn next part unsent lane old now new (same, inl (lt, is)) (ring, none) =
    (same_output old now new same ring, inl (omega (arith, lt), none ∙ is))
missed_lane turn next part unsent lane old now new (same, inr (nothing, why)) (ring, none) =
    (same_output old now new same ring, inr (none ∙ nothing, inl refl))

done_lane : (turn : ℕ → ℕ) (next : ℕ) (part : ℕ → List Message) (unsent : Option StageEnd) (lane : ℕ) (old now : Sender) → turn lane < next
    → IsSentSoFar turn next part unsent lane old now → IsSentPart part unsent lane old now
done_lane turn next part unsent lane old now lt (same, inl is) = (same, inl is.1)
done_lane turn next part unsent lane old now lt (same, inr (nothing, inl some)) = (same, inr (nothing, some))
done_lane turn next part unsent lane old now lt (same, inr (nothing, inr le)) = absurd (omega (arith, lt, le))

some_lane : (turn : ℕ → ℕ) (next : ℕ) (part : ℕ → List Message) (unsent : Option StageEnd) (lane : ℕ) (old now : Sender)
    → IsSentSoFar turn next part unsent lane old now → IsSentPart part (Some (Fault Memory)) lane old now
some_lane turn next part unsent lane old now (same, inl is) = (same, inl is.1)
some_lane turn next part unsent lane old now (same, inr is) = (same, inr (is.0, refl))

module _ {turn : ℕ → ℕ} {next : ℕ} {part : ℕ → List Message} {unsent : Option StageEnd} {olds nows news : List Sender} where
  -- the next lane was sent its part
  pub sends_next : (at : ℕ) {l : List Message} → IsSending turn next part unsent olds nows → turn at ≡ next
      → ((lane : ℕ) → lane < length olds → turn lane ≡ next → lane ≡ at) → l ≡ part at → AtEach (IsSentTo at l) nows news
      → IsSending turn (next + 1) part unsent olds news
  sends_next at sending here only its sent_to = record {
    lanes = each-then (λ lane old now. (lane < length olds) × IsSentSoFar turn next part unsent lane old now) (IsSentTo at (part at))
        (IsSentSoFar turn (next + 1) part unsent) 0 olds nows news
        (λ lane old now new before after. next_lane turn next part unsent at lane old now new here (only lane before.0) before.1 after)
        (each-below (IsSentSoFar turn next part unsent) (length olds) 0 olds nows (omega arith) sending.lanes)
        (subst (λ (x : List Message). AtEach (IsSentTo at x) nows news) its sent_to);
    reason = sending.reason;
  }

  -- or couldn't be sent it
  pub misses_next : IsSending turn next part unsent olds nows → AtEach IsSameEnd nows news → IsSending turn (next + 1) part (Some PeerGone) olds news
  misses_next sending same = record {
    lanes = each-then (IsSentSoFar turn next part unsent) IsSameEnd (IsSentSoFar turn (next + 1) part (Some PeerGone)) 0 olds nows news
        (missed_lane turn next part unsent)
        sending.lanes same;
    reason = inr refl;
  }

module _ {turn : ℕ → ℕ} {next : ℕ} {part : ℕ → List Message} {unsent : Option StageEnd} {olds nows : List Sender} where
  -- each lane has had its turn
  pub sends_all : IsSending turn next part unsent olds nows → ((lane : ℕ) → lane < length olds → turn lane < next) → HasSentParts part unsent olds nows
  sends_all sending all = record {
    lanes = each-map (λ lane old now. (lane < length olds) × IsSentSoFar turn next part unsent lane old now) (IsSentPart part unsent) 0 olds nows
        (λ lane old now is. done_lane turn next part unsent lane old now (all lane is.0) is.1)
        (each-below (IsSentSoFar turn next part unsent) (length olds) 0 olds nows (omega arith) sending.lanes);
    reason = sending.reason;
  }

  -- there was no memory for a part
  pub leaves_off : IsSending turn next part unsent olds nows → HasSentParts part (Some (Fault Memory)) olds nows
  leaves_off sending = record {
    lanes = each-map (IsSentSoFar turn next part unsent) (IsSentPart part (Some (Fault Memory))) 0 olds nows
        (some_lane turn next part unsent) sending.lanes;
    reason = inl refl;
  }

-- ---- one lane

-- the lane with this number was sent messages, after all were woken
pub sends_to : (at : ℕ) (olds nows : List Sender) (l : List Message) {was : Sender} (new other : Sender) → AtEach IsSameEnd olds nows → at < length nows
    → was ≡ get_or nows at other → SameSender was new → sent new ≡ sent was ++ l → AtEach (IsSentTo at l) olds (slice_set nows at new)
sends_to at olds nows l {was} new other woken lt is same added =
    each-set IsSameEnd (IsSentTo at l) at 0 at olds nows other new (omega arith) lt
    (λ n old now differs unchanged. (unchanged.0, inr (differs, unchanged.1))) (λ old unchanged.
    let same_was : IsSameEnd at old was = subst (λ (x : Sender). IsSameEnd at old x) (sym is) unchanged in (
      same_output old was new same_was.0 same,
      inl (refl, added ∙ ap (λ (x : List Message). x ++ l) same_was.1),
    )) woken

-- or nothing, since it gets nothing
pub sends_none : (at : ℕ) (outputs : List Sender) → AtEach (IsSentTo at []) outputs outputs
sends_none at outputs =
    each-itself (IsSentTo at []) 0 outputs (λ n x. (
      itself_output x,
      elim (cases_eq n at) [ inl its ↦ inl (its, sym (append-nil (sent x))) | inr other ↦ inr (other, refl) ],
    ))

-- ---- lanes that were woken, and sent nothing

-- the end of one lane's ring was changed so
pub wakes_one : (at : ℕ) (olds nows : List Sender) {was : Sender} (new other : Sender) → at < length nows → was ≡ get_or nows at other → SameSender was new
    → sent new ≡ sent was → AtEach IsSameEnd olds nows → AtEach IsSameEnd olds (slice_set nows at new)
wakes_one at olds nows {was} new other lt is same none each =
    each-set IsSameEnd IsSameEnd at 0 at olds nows other new (omega arith) lt (λ n old now differs unchanged. unchanged) (λ old unchanged.
    let same_was : IsSameEnd at old was = subst (λ (x : Sender). IsSameEnd at old x) (sym is) unchanged in
    (same_output old was new same_was.0 same, none ∙ same_was.1)) each

pub wakes_none : (outputs : List Sender) → AtEach IsSameEnd outputs outputs
wakes_none outputs = each-itself IsSameEnd 0 outputs (λ n x. (itself_output x, refl))

one_then : (lane : ℕ) (old now new : Sender) → IsSameEnd lane old now → IsSameEnd lane now new → IsSameEnd lane old new
one_then lane old now new first second = (same_output old now new first.0 second.0, second.1 ∙ first.1)

pub wakes_then : (olds nows news : List Sender) → AtEach IsSameEnd olds nows → AtEach IsSameEnd nows news → AtEach IsSameEnd olds news
wakes_then olds nows news first second = each-then IsSameEnd IsSameEnd IsSameEnd 0 olds nows news one_then first second

pub woken_count : (olds nows : List Sender) → AtEach IsSameEnd olds nows → length nows ≡ length olds
woken_count olds nows woken = each-count IsSameEnd 0 olds nows woken
