-- Messages that are dealt one after another, from a place on.
use Rattle.pnm_lanes.proofs.Words.{◌≡◌, inl, inr, ℕ, ◌≤◌, List, [], ◌∷◌, ◌++◌, length, None, Some, refl, sym, ap, subst, ◌∙◌, append_assoc, append-nil, arith}
use Rattle.pnm_lanes.proofs.Words.{Packet, Sender, messages_in, sent, Message, Place, IsLawfulFrom, place_after, place_of, place_of-append, ToolFault}
use Rattle.pnm_lanes.proofs.Words.{OutOfOrder, dealt_from, StageEnd, Fault, same_output, itself_output, AtEach, part_at, IsSentPart, HasSentParts, IsSentAll}
use Rattle.pnm_lanes.proofs.Words.{HasDealtAll, IsRefused, HasLeftOff, HasTakenLawful}
use Rattle.pnm_lanes.proofs.EachLaws.{each-map, each-itself, each-then, each-count}
use Rattle.pnm_lanes.proofs.DealtLaws.{dealt_from-append}

-- ---- one after another

-- nothing was dealt
pub none_dealt : (place : Place) (outputs : List Sender) → HasDealtAll place [] outputs outputs
none_dealt place outputs =
    (tt, each-itself (IsSentAll place (length outputs) []) 0 outputs (λ n x. (itself_output x, sym (append-nil (sent x)))))

pub all_then : (place : Place) (first second : List Message) (lanes lane : ℕ) (old now new : Sender) → IsSentAll place lanes first lane old now
    → IsSentAll (place_of place first) lanes second lane now new → IsSentAll place lanes (first ++ second) lane old new
all_then place first second lanes lane old now new one other = (
  same_output old now new one.0 other.0,
  other.1 ∙ ap (λ (x : List Message). x ++ dealt_from lane lanes (place_of place first) second) one.1
      ∙ append_assoc (sent old) (dealt_from lane lanes place first) (dealt_from lane lanes (place_of place first) second)
      ∙ ap (λ (x : List Message). sent old ++ x) (sym (dealt_from-append lane lanes place first second)),
)

pub lawful_both : (place : Place) (first second : List Message) → IsLawfulFrom place first → IsLawfulFrom (place_of place first) second
    → IsLawfulFrom place (first ++ second)
lawful_both place [] second one other = other
lawful_both place (m ∷ first) second one other = (one.0, lawful_both (place_after place m) first second one.1 other)

-- and then more
pub dealt_then : (place : Place) (first second : List Message) (olds nows news : List Sender) → HasDealtAll place first olds nows
    → HasDealtAll (place_of place first) second nows news → HasDealtAll place (first ++ second) olds news
dealt_then place first second olds nows news one other = (
  lawful_both place first second one.0 other.0,
  each-then (IsSentAll place (length olds) first) (IsSentAll (place_of place first) (length olds) second) (IsSentAll place (length olds) (first ++ second)) 0
      olds nows news (all_then place first second (length olds)) one.1
      (subst (λ (n : ℕ). AtEach (IsSentAll (place_of place first) n second) nows news) (each-count (IsSentAll place (length olds) first) 0 olds nows one.1)
      other.1),
)

-- ---- a packet

-- of these messages some were dealt, and the others are left
pub record HasDealtBefore (place here : Place) (all left : List Message) (olds nows : List Sender) : Type 0 where
  pub before : List Message
  pub parts : all ≡ before ++ left
  pub leads : here ≡ place_of place before
  pub dealt : HasDealtAll place before olds nows

pub deals_none : (place : Place) {l left : List Message} (outputs : List Sender) → left ≡ l → HasDealtBefore place place l left outputs outputs
deals_none place outputs all = record { before = []; parts = sym all; leads = refl; dealt = none_dealt place outputs }

all_sent : (place : Place) (l : List Message) (lanes lane : ℕ) (old new : Sender) → IsSentPart (part_at lanes place l) None lane old new
    → IsSentAll place lanes l lane old new
all_sent place l lanes lane old new (same, inl is) = (same, is)
all_sent place l lanes lane old new (same, inr lost) = let lost_one = lost.1 in absurd cc

module _ {place here : Place} {all left : List Message} {olds nows : List Sender} where
  -- the next of them were dealt
  pub deals_next : {after : Place} {rest : List Message} {packet : Packet} {news : List Sender} → HasDealtBefore place here all left olds nows
      → HasTakenLawful here left packet after rest → HasSentParts (part_at (length nows) here (messages_in packet)) None nows news
      → HasDealtBefore place after all rest olds news
  deals_next {rest} {packet} {news} so_far taken parts =
      let l : List Message = messages_in packet in
      let next : HasDealtAll here l nows news = (
        taken.lawful,
        each-map (IsSentPart (part_at (length nows) here l) None) (IsSentAll here (length nows) l) 0 nows news (all_sent here l (length nows)) parts.lanes,
      ) in
      record {
        before = so_far.before ++ l;
        parts = so_far.parts ∙ ap (λ (x : List Message). so_far.before ++ x) taken.parts ∙ sym (append_assoc so_far.before l rest);
        leads = taken.leads ∙ ap (λ (p : Place). place_of p l) so_far.leads ∙ sym (place_of-append place so_far.before l);
        dealt = dealt_then place so_far.before l olds nows news so_far.dealt
            (subst (λ (p : Place). HasDealtAll p l nows news) so_far.leads next);
      }

  some_left : {end : StageEnd} (l rest : List Message) {news : List Sender} → 1 ≤ length l → left ≡ l ++ rest
      → HasDealtBefore place here all left olds nows → IsLawfulFrom here l → HasSentParts (part_at (length nows) here l) (Some end) nows news
      → HasLeftOff end place all olds news
  some_left [] rest some is so_far lawful parts = absurd (omega (arith, some))
  some_left {end} (m ∷ l) rest {news} some is so_far lawful parts = record {
    before = so_far.before;
    at = m;
    more = l;
    after = rest;
    parts = so_far.parts ∙ ap (λ (x : List Message). so_far.before ++ x) is;
    nows = nows;
    dealt = so_far.dealt;
    reason = inr (subst (λ (p : Place). IsLawfulFrom p (m ∷ l) × HasSentParts (part_at (length nows) p (m ∷ l)) (Some end) nows news) so_far.leads
        (lawful, parts));
  }

  -- or not to each lane
  pub leaves_next : {end : StageEnd} {after : Place} {rest : List Message} {packet : Packet} {news : List Sender}
      → HasDealtBefore place here all left olds nows → HasTakenLawful here left packet after rest
      → HasSentParts (part_at (length nows) here (messages_in packet)) (Some end) nows news → HasLeftOff end place all olds news
  leaves_next {rest} {packet} so_far taken parts = some_left (messages_in packet) rest taken.some taken.parts so_far taken.lawful parts

  refused_so : (fault : ToolFault) (l : List Message) → left ≡ l → HasDealtBefore place here all left olds nows → IsRefused fault here l
      → HasLeftOff (Fault fault) place all olds nows
  refused_so fault [] is so_far refused = absurd refused
  refused_so fault (m ∷ l) is so_far refused = record {
    before = so_far.before;
    at = m;
    more = [];
    after = l;
    parts = so_far.parts ∙ ap (λ (x : List Message). so_far.before ++ x) is;
    nows = nows;
    dealt = so_far.dealt;
    reason = inl (refl, (fault, refl, subst (λ (p : Place). IsRefused fault p (m ∷ [])) so_far.leads refused));
  }

  -- or can't be
  pub refuses_next : {fault : ToolFault} → HasDealtBefore place here all left olds nows → IsRefused fault here left
      → HasLeftOff (Fault fault) place all olds nows
  refuses_next {fault} so_far refused = refused_so fault left refl so_far refused

-- the first of some messages can't come
pub not_in_order : (place : Place) {l : List Message} (first rest : List Message) → length first ≡ 1 → l ≡ first ++ rest → (IsLawfulFrom place first → ⊥)
    → IsRefused OutOfOrder place l
not_in_order place [] rest one is refused = absurd (omega (arith, one))
not_in_order place (m ∷ []) rest one is refused = subst (IsRefused OutOfOrder place) (sym is) (inr (refl, λ accepts. refused (accepts, tt)))
not_in_order place (m ∷ n ∷ first) rest one is refused = absurd (omega (arith, one))
