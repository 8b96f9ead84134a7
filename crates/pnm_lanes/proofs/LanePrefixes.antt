-- Lanes together: what all of them were dealt is a prefix of one stream, dealt, and so is what each gives.
use Rattle.pnm_lanes.proofs.Words.{◌≡◌, ◌⊎◌, inl, inr, ℕ, zero, suc, ◌<◌, List, [], ◌∷◌, ◌++◌, refl, sym, ap, subst, ◌∙◌, arith, Message, Begin, Row, ImageEnd}
use Rattle.pnm_lanes.proofs.Words.{StreamEnd, Stop, Between, without_stop, ending_of, EndsBy, IsLawful, IsPrefixOf, Ending, More, Whole, BrokenOff, dealt}
use Rattle.pnm_lanes.proofs.Words.{prefixes, StopsLast, lawful_stops, keeps_all, prefix_of_prefix, unbroken_keeps_all, EndsAtMostOnce, prefix_without_stop}
use Rattle.pnm_lanes.proofs.Words.{stop_is_cut, IsPrefixOfDealt}
use Rattle.pnm_lanes.proofs.DealtLaws.{dealt_from-append, dealt_prefix}
use Rattle.pnm_lanes.proofs.LaneDue.{prefix_or_all}

-- ---- a last Stop

-- a list ends as its last message does
pub last_tells : (e : Ending) (l : List Message) (m : Message) → EndsBy e (l ++ m ∷ []) → ending_of m ≡ e
last_tells e [] m ends = ends
last_tells e (x ∷ []) m ends = ends.1
last_tells e (x ∷ y ∷ l) m ends = last_tells e (y ∷ l) m ends.1

stop_last : (m : Message) → ending_of m ≡ BrokenOff → m ≡ Stop
stop_last (Begin head) broken = absurd cc
stop_last (Row row) broken = absurd cc
stop_last ImageEnd broken = absurd cc
stop_last StreamEnd broken = absurd cc
stop_last Stop broken = refl

goes_on : (m : Message) (l : List Message) → ending_of m ≡ More → EndsBy More l → EndsBy More (m ∷ l)
goes_on m [] here more = here
goes_on m (n ∷ l) here more = (here, more)

-- a list that was broken off goes on before its Stop
pub before_stop : (l : List Message) → EndsBy BrokenOff l → (prefix : List Message) × EndsBy More prefix × (l ≡ prefix ++ Stop ∷ [])
before_stop [] broken = absurd cc
before_stop (m ∷ []) broken = ([], refl, ap (λ (x : Message). x ∷ []) (stop_last m broken))
before_stop (m ∷ n ∷ l) broken =
    let rest = before_stop (n ∷ l) broken.1 in
    (m ∷ rest.0, goes_on m rest.0 broken.0 rest.1, ap (λ (x : List Message). m ∷ x) rest.2)

-- without its last Stop no list ends in Stop, unless more than its last message ends it
no_stop_left : (e : Ending) (l x : List Message) → EndsBy e l → without_stop l ≡ x ++ Stop ∷ [] → ⊥
no_stop_left More l x ends same =
    let tells = last_tells More x Stop (subst (EndsBy More) (sym (unbroken_keeps_all More l tt ends) ∙ same) ends) in
    absurd cc
no_stop_left Whole l x ends same =
    let tells = last_tells Whole x Stop (subst (EndsBy Whole) (sym (unbroken_keeps_all Whole l tt ends) ∙ same) ends) in
    absurd cc
no_stop_left BrokenOff l x ends same =
    let cut = before_stop l ends in
    let prefix : without_stop l ≡ cut.0 = ap without_stop cut.2 ∙ stop_is_cut cut.0 in
    let tells = last_tells More x Stop (subst (EndsBy More) (sym prefix ∙ same) cut.1) in
    absurd cc

-- ---- what a lane receives

-- where what it was dealt is a prefix of what it gets of a lawful list, so is what it receives without a last Stop
got_by : (lane lanes : ℕ) (accepted i : List Message) → StopsLast accepted → EndsAtMostOnce i → IsPrefixOf (without_stop i) (dealt lane lanes accepted)
    → IsPrefixOf (without_stop i) (dealt lane lanes (without_stop accepted))
got_by lane lanes accepted i (inl on) once prefix = subst (λ (x : List Message). IsPrefixOf (without_stop i) (dealt lane lanes x)) (sym (keeps_all accepted on))
    prefix
got_by lane lanes accepted i (inr cut) once prefix =
    let stopped : dealt lane lanes accepted ≡ dealt lane lanes cut.0 ++ Stop ∷ [] = ap (dealt lane lanes) cut.1
    ∙ dealt_from-append lane lanes Between cut.0 (Stop ∷ []) in
    let without : without_stop accepted ≡ cut.0 = ap without_stop cut.1 ∙ stop_is_cut cut.0 in
    elim (prefix_or_all (without_stop i) (dealt lane lanes cut.0) Stop (subst (IsPrefixOf (without_stop i)) stopped prefix)) [
      | inl h ↦ subst (λ (x : List Message). IsPrefixOf (without_stop i) (dealt lane lanes x)) (sym without) h
      | inr h ↦ absurd (no_stop_left once.0 i (dealt lane lanes cut.0) once.1 h)
    ]

pub lane_gets : (lane lanes : ℕ) (accepted d i : List Message) → IsLawful accepted → EndsAtMostOnce i → IsPrefixOf i d
    → IsPrefixOf (without_stop d) (dealt lane lanes accepted) → IsPrefixOf (without_stop i) (dealt lane lanes (without_stop accepted))
lane_gets lane lanes accepted d i lawful once took sent =
    let cut : IsPrefixOf (without_stop i) (without_stop d) = subst (λ (x : List Message). IsPrefixOf (without_stop i) (without_stop x)) (sym took.1)
    (prefix_without_stop i took.0) in
    got_by lane lanes accepted i (lawful_stops Between accepted lawful) once
    (prefix_of_prefix (without_stop i) (without_stop d) (dealt lane lanes accepted) cut sent)

-- ---- the longest of the lawful prefixes that the lanes were dealt

-- a lawful prefix of what was received, of which each of the first lanes was sent a prefix of what is dealt to it
pub record IsCommonPrefix (lanes count : ℕ) (l : List Message) (d : ℕ → List Message) : Type 0 where
  pub accepted : List Message
  pub rest : List Message
  pub parts : l ≡ accepted ++ rest
  pub lawful : IsLawful accepted
  pub sent : (lane : ℕ) → lane < count → IsPrefixOf (without_stop (d lane)) (dealt lane lanes accepted)

below_or_last : (lane count : ℕ) → lane < suc count → (lane < count) ⊎ (lane ≡ count)
below_or_last zero zero below = inr refl
below_or_last zero (suc count) below = inl (omega arith)
below_or_last (suc lane) zero below = absurd (omega (arith, below))
below_or_last (suc lane) (suc count) below = elim (below_or_last lane count (omega (arith, below))) [
  | inl first ↦ inl (omega (arith, first))
  | inr last ↦ inr (ap suc last)
]

one_lane_more : {lanes count : ℕ} {l : List Message} {d : ℕ → List Message} → IsCommonPrefix lanes count l d → IsPrefixOfDealt count lanes l (d count)
    → IsCommonPrefix lanes (suc count) l d
one_lane_more {lanes} {count} {d} common one =
    elim (prefixes common.accepted common.rest one.accepted one.rest (sym common.parts ∙ one.parts)) [
      | inl longer ↦ record {
        accepted = common.accepted;
        rest = common.rest;
        parts = common.parts;
        lawful = common.lawful;
        sent = λ lane below. elim (below_or_last lane count below) [
          | inl first ↦ common.sent lane first
          | inr last ↦ subst (λ (n : ℕ). IsPrefixOf (without_stop (d n)) (dealt n lanes common.accepted)) (sym last)
              (prefix_of_prefix (without_stop (d count)) (dealt count lanes one.accepted) (dealt count lanes common.accepted) one.prefix
              (dealt_prefix count lanes one.accepted common.accepted (longer.0, longer.1)))
        ];
      }
      | inr shorter ↦ record {
        accepted = one.accepted;
        rest = one.rest;
        parts = one.parts;
        lawful = one.lawful;
        sent = λ lane below. elim (below_or_last lane count below) [
          | inl first ↦ prefix_of_prefix (without_stop (d lane)) (dealt lane lanes common.accepted) (dealt lane lanes one.accepted) (common.sent lane first)
              (dealt_prefix lane lanes common.accepted one.accepted (shorter.0, shorter.1))
          | inr last ↦ subst (λ (n : ℕ). IsPrefixOf (without_stop (d n)) (dealt n lanes one.accepted)) (sym last) one.prefix
        ];
      }
    ]

pub common_prefix : {lanes : ℕ} (count : ℕ) {l : List Message} {d : ℕ → List Message} → ((lane : ℕ) → lane < count → IsPrefixOfDealt lane lanes l (d lane))
    → IsCommonPrefix lanes count l d
common_prefix zero {l} each = record { accepted = []; rest = l; parts = refl; lawful = tt; sent = λ lane below. absurd (omega (arith, below)) }
common_prefix (suc count) each = one_lane_more (common_prefix count (λ lane below. each lane (omega (arith, below)))) (each count (omega arith))
