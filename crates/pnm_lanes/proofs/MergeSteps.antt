-- The rings of lanes once all have ended: lane by lane from the last on, what has passed over them, and the end of all.
use Rattle.pnm_lanes.proofs.Words.{◌≡◌, ℕ, suc, ◌+◌, Option, Some, Result, Ok, Err, IfOk, List, [], ◌∷◌, ◌++◌, length, refl, sym, ap, subst, ◌∙◌, append_assoc}
use Rattle.pnm_lanes.proofs.Words.{append-nil, arith, result_ok, length-append, Sender, Receiver, sent, received, IsPair, IsPrefixOf, StageEnd, StageDone}
use Rattle.pnm_lanes.proofs.Words.{LaneRingEnds, AreUnused, ArePairs, end_of_both, end_of_lanes}

one_more : {X : Type 0} (xs : List X) (x : X) → length (xs ++ x ∷ []) ≡ suc (length xs)
one_more xs x = let both = length-append xs (x ∷ []) in omega (arith, both)

-- ---- rings that are made

-- what a call promises of its value, where its `ok` gave this one
pub made_so : {T E : Type 0} (P : T → Type 0) (r : Result T E) {given : Option T} {x : T} → given ≡ result_ok r → given ≡ Some x → IfOk r P → P x
made_so P (Ok y) {x} by is made =
    let same : y ≡ x = cc in
    subst P same made
made_so P (Err e) by is made = absurd cc

pub counted_more : {X : Type 0} (xs : List X) {ys : List X} (x : X) {n : ℕ} → ys ≡ xs ++ x ∷ [] → length xs ≡ n → length ys ≡ n + 1
counted_more xs x is count = ap length is ∙ one_more xs x ∙ omega (arith, count)

-- rings to and from one lane more
pub unused_more : (ss : List Sender) (es : List LaneRingEnds) (rs : List Receiver) (s : Sender) (e : LaneRingEnds) (r : Receiver)
    → AreUnused ss es rs → IsPair s e.input → IsPair e.output r → sent s ≡ [] → received e.input ≡ [] → sent e.output ≡ [] → received r ≡ []
    → AreUnused (ss ++ s ∷ []) (es ++ e ∷ []) (rs ++ r ∷ [])
unused_more [] [] [] s e r unused to from a b c d = (to, from, (a, b, c, d), tt)
unused_more [] [] (y ∷ rs) s e r unused to from a b c d = absurd unused
unused_more [] (x ∷ es) rs s e r unused to from a b c d = absurd unused
unused_more (z ∷ ss) [] rs s e r unused to from a b c d = absurd unused
unused_more (z ∷ ss) (x ∷ es) [] s e r unused to from a b c d = absurd unused
unused_more (z ∷ ss) (x ∷ es) (y ∷ rs) s e r unused to from a b c d = (unused.0, unused.1, unused.2, unused_more ss es rs s e r unused.3 to from a b c d)

-- ---- the last lane

-- as many rings to lanes as from them
pub as_many_pairs : (ss : List Sender) (ds : List StageDone) (rs : List Receiver) → ArePairs ss ds rs → (length ss ≡ length ds) × (length rs ≡ length ds)
as_many_pairs [] [] [] pairs = (refl, refl)
as_many_pairs [] [] (r ∷ rs) pairs = absurd pairs
as_many_pairs [] (d ∷ ds) rs pairs = absurd pairs
as_many_pairs (s ∷ ss) [] rs pairs = absurd pairs
as_many_pairs (s ∷ ss) (d ∷ ds) [] pairs = absurd pairs
as_many_pairs (s ∷ ss) (d ∷ ds) (r ∷ rs) pairs =
    let rest = as_many_pairs ss ds rs pairs.2 in
    (ap suc rest.0, ap suc rest.1)

-- the rings of the last lane, and those of the lanes before it
pub pairs_last : (ss : List Sender) (ds : List StageDone) (rs : List Receiver) (s : Sender) (d : StageDone) (r : Receiver)
    → ArePairs (ss ++ s ∷ []) (ds ++ d ∷ []) (rs ++ r ∷ []) → ArePairs ss ds rs × IsPair s d.input × IsPair d.output r
pairs_last [] [] [] s d r pairs = (tt, pairs.0, pairs.1)
pairs_last [] [] (y ∷ rs) s d r pairs = let many = as_many_pairs (s ∷ []) (d ∷ []) (y ∷ (rs ++ r ∷ [])) pairs in absurd (omega (arith, many.1, one_more rs r))
pairs_last [] (x ∷ ds) rs s d r pairs = let many = as_many_pairs (s ∷ []) (x ∷ (ds ++ d ∷ [])) (rs ++ r ∷ []) pairs in
    absurd (omega (arith, many.0, one_more ds d))
pairs_last (z ∷ ss) [] rs s d r pairs = let many = as_many_pairs (z ∷ (ss ++ s ∷ [])) (d ∷ []) (rs ++ r ∷ []) pairs in
    absurd (omega (arith, many.0, one_more ss s))
pairs_last (z ∷ ss) (x ∷ ds) [] s d r pairs = let many = as_many_pairs (z ∷ (ss ++ s ∷ [])) (x ∷ (ds ++ d ∷ [])) (r ∷ []) pairs in
    absurd (omega (arith, many.1, one_more ds d))
pairs_last (z ∷ ss) (x ∷ ds) (y ∷ rs) s d r pairs =
    let rest = pairs_last ss ds rs s d r pairs.2 in
    ((pairs.0, pairs.1, rest.0), rest.1, rest.2)

-- ---- lane by lane

-- each lane received a prefix of what was sent to it, and a prefix of what it sent was received
abbrev pub HavePassed : List Sender → List StageDone → List Receiver → Type 0
HavePassed [] [] [] = Unit {0}
HavePassed [] [] (r ∷ rs) = ⊥
HavePassed [] (d ∷ ds) rs = ⊥
HavePassed (s ∷ ss) [] rs = ⊥
HavePassed (s ∷ ss) (d ∷ ds) [] = ⊥
HavePassed (s ∷ ss) (d ∷ ds) (r ∷ rs) = IsPrefixOf (received d.input) (sent s) × IsPrefixOf (received r) (sent d.output) × HavePassed ss ds rs

-- some of the last lanes were looked at: what had passed over their rings, and their end with that of the thread behind them
pub record IsMerging (all_ss : List Sender) (all_ds : List StageDone) (all_rs : List Receiver) (gatherer : StageEnd)
    (ss : List Sender) (ds : List StageDone) (rs : List Receiver) (end : StageEnd) : Type 0 where
  pub to_lanes : List Sender
  pub lanes : List StageDone
  pub from_lanes : List Receiver
  pub parts : (all_ss ≡ ss ++ to_lanes) × (all_ds ≡ ds ++ lanes) × (all_rs ≡ rs ++ from_lanes)
  pub pairs : ArePairs ss ds rs
  pub passed : HavePassed to_lanes lanes from_lanes
  pub end_is : end ≡ end_of_lanes lanes gatherer

pub merges_none : (ss : List Sender) (ds : List StageDone) (rs : List Receiver) (gatherer : StageEnd) → ArePairs ss ds rs
    → IsMerging ss ds rs gatherer ss ds rs gatherer
merges_none ss ds rs gatherer pairs = record {
  to_lanes = [];
  lanes = [];
  from_lanes = [];
  parts = (sym (append-nil ss), sym (append-nil ds), sym (append-nil rs));
  pairs = pairs;
  passed = tt;
  end_is = refl;
}

-- the last of those that are left is taken
pub record IsTaken (ss ss' : List Sender) (ds ds' : List StageDone) (rs rs' : List Receiver) (s : Sender) (d : StageDone) (r : Receiver) : Type 0 where
  pub sender : ss ≡ ss' ++ s ∷ []
  pub lane : ds ≡ ds' ++ d ∷ []
  pub receiver : rs ≡ rs' ++ r ∷ []

pub taken_pairs : {all_ss : List Sender} {all_ds : List StageDone} {all_rs : List Receiver} {gatherer : StageEnd} {ss : List Sender} (ss' : List Sender)
    {ds : List StageDone} (ds' : List StageDone) {rs : List Receiver} (rs' : List Receiver) {end : StageEnd} (s : Sender) (d : StageDone) (r : Receiver)
    → IsMerging all_ss all_ds all_rs gatherer ss ds rs end → IsTaken ss ss' ds ds' rs rs' s d r → ArePairs ss' ds' rs' × IsPair s d.input × IsPair d.output r
taken_pairs {ss} ss' {ds} ds' rs' s d r merging taken =
    pairs_last ss' ds' rs' s d r (subst (λ (x : List Sender). ArePairs x (ds' ++ d ∷ []) (rs' ++ r ∷ [])) taken.sender
    (subst (λ (x : List StageDone). ArePairs ss x (rs' ++ r ∷ [])) taken.lane (subst (ArePairs ss ds) taken.receiver merging.pairs)))

-- and looked at
pub merges_one : (all_ss : List Sender) (all_ds : List StageDone) (all_rs : List Receiver) (gatherer : StageEnd) (ss ss' : List Sender) (ds ds' : List
    StageDone)
    (rs rs' : List Receiver) (end next : StageEnd)
    (s : Sender) (d : StageDone) (r : Receiver) → IsMerging all_ss all_ds all_rs gatherer ss ds rs end → IsTaken ss ss' ds ds' rs rs' s d r
    → IsPrefixOf (received d.input) (sent s) → IsPrefixOf (received r) (sent d.output) → next ≡ end_of_both d.end end
    → IsMerging all_ss all_ds all_rs gatherer ss' ds' rs' next
merges_one all_ss all_ds all_rs gatherer ss ss' ds ds' rs rs' end next s d r merging taken to from is = record {
  to_lanes = s ∷ merging.to_lanes;
  lanes = d ∷ merging.lanes;
  from_lanes = r ∷ merging.from_lanes;
  parts = (
    merging.parts.0 ∙ ap (λ (x : List Sender). x ++ merging.to_lanes) taken.sender ∙ append_assoc ss' (s ∷ []) merging.to_lanes,
    merging.parts.1 ∙ ap (λ (x : List StageDone). x ++ merging.lanes) taken.lane ∙ append_assoc ds' (d ∷ []) merging.lanes,
    merging.parts.2 ∙ ap (λ (x : List Receiver). x ++ merging.from_lanes) taken.receiver ∙ append_assoc rs' (r ∷ []) merging.from_lanes,
  );
  pairs = (taken_pairs ss' ds' rs' s d r merging taken).0;
  passed = (to, from, merging.passed);
  end_is = is ∙ ap (end_of_both d.end) merging.end_is;
}

-- all were looked at
no_member : {X : Type 0} (xs : List X) → length xs ≡ 0 → xs ≡ []
no_member [] none = refl
no_member (x ∷ xs) none = absurd (omega (arith, none))

pub merges_all : {all_ss : List Sender} {all_ds : List StageDone} {all_rs : List Receiver} {gatherer : StageEnd} {ss : List Sender} {ds : List StageDone}
    {rs : List Receiver} {end : StageEnd} → IsMerging all_ss all_ds all_rs gatherer ss ds rs end → length ds ≡ 0
    → HavePassed all_ss all_ds all_rs × (end ≡ end_of_lanes all_ds gatherer)
merges_all {all_ss} {all_ds} {all_rs} {gatherer} {ss} {ds} {rs} merging none =
    let many = as_many_pairs ss ds rs merging.pairs in
    let of_ss : all_ss ≡ merging.to_lanes = merging.parts.0 ∙ ap (λ (x : List Sender). x ++ merging.to_lanes) (no_member ss (many.0 ∙ none)) in
    let of_ds : all_ds ≡ merging.lanes = merging.parts.1 ∙ ap (λ (x : List StageDone). x ++ merging.lanes) (no_member ds none) in
    let of_rs : all_rs ≡ merging.from_lanes = merging.parts.2 ∙ ap (λ (x : List Receiver). x ++ merging.from_lanes) (no_member rs (many.1 ∙ none)) in (
      subst (λ (x : List Sender). HavePassed x all_ds all_rs) (sym of_ss) (subst (λ (x : List StageDone). HavePassed merging.to_lanes x all_rs) (sym of_ds)
          (subst (HavePassed merging.to_lanes merging.lanes) (sym of_rs) merging.passed)),
      merging.end_is ∙ ap (λ (x : List StageDone). end_of_lanes x gatherer) (sym of_ds),
    )
