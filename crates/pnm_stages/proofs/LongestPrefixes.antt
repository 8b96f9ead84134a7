-- Whether a message may come is decided, and so every list has a longest lawful prefix.
use Rattle.pnm_stages.proofs.Words.{◌≡◌, ◌⊎◌, inl, inr, ℕ, ◌≤◌, List, [], ◌∷◌, ◌++◌, length, refl, sym, ap, subst, arith, AllByRecursion, cases_lt}
use Rattle.pnm_stages.proofs.Words.{All-from_recursion, recursion_from_All, Message, Begin, Row, ImageEnd, StreamEnd, Stop, Place, Between, Inside, After}
use Rattle.pnm_stages.proofs.Words.{Shape, row_length, Accepts, IsLawfulFrom, IsRowOf, place_after, place_of, same_first, IsLongestLawfulPrefix}

-- it holds, or it doesn't
abbrev IsDecided : Type 0 → Type 0
IsDecided P = P ⊎ (P → ⊥)

-- ---- whether a message may come

same_or_not : (a b : ℕ) → IsDecided (a ≡ b)
same_or_not a b = elim (cases_lt a b) [
  | inl below ↦ inr (λ same. omega (arith, below, same))
  | inr above ↦ elim (cases_lt b a) [
    | inl below ↦ inr (λ same. omega (arith, below, same))
    | inr others ↦ inl (omega (arith, above, others))
  ]
]

-- no sample is above this one
are_within : (max : ℕ) (row : List ℕ) → IsDecided (AllByRecursion (λ sample. sample ≤ max) row)
are_within max [] = inl tt
are_within max (sample ∷ row) = elim (cases_lt max sample) [
  | inl above ↦ inr (λ all. let first = all.0 in omega (arith, above, first))
  | inr within ↦ elim (are_within max row) [
    | inl rest ↦ inl (within, rest)
    | inr not ↦ inr (λ all. not all.1)
  ]
]

is_row_or_not : (s : Shape) (row : List ℕ) → IsDecided (IsRowOf s row)
is_row_or_not s row = elim (same_or_not (length row) (row_length s)) [
  | inr other ↦ inr (λ is. other is.count)
  | inl same ↦ elim (are_within s.maxval row) [
    | inl all ↦ inl (record { count = same; range = All-from_recursion (λ sample. sample ≤ s.maxval) row all })
    | inr not ↦ inr (λ is. not (recursion_from_All (λ sample. sample ≤ s.maxval) row is.range))
  ]
]

may_row : (s : Shape) (y : ℕ) (row : List ℕ) → IsDecided (Accepts (Inside s y) (Row row))
may_row s y row = elim (cases_lt y s.height) [
  | inr beyond ↦ inr (λ may. let below = may.0 in omega (arith, beyond, below))
  | inl below ↦ elim (is_row_or_not s row) [
    | inl is ↦ inl (below, is)
    | inr not ↦ inr (λ may. not may.1)
  ]
]

may_come : (place : Place) (m : Message) → IsDecided (Accepts place m)
may_come Between (Begin head) = inl tt
may_come Between (Row row) = inr (λ may. may)
may_come Between ImageEnd = inr (λ may. may)
may_come Between StreamEnd = inl tt
may_come Between Stop = inl tt
may_come (Inside s y) (Begin head) = inr (λ may. may)
may_come (Inside s y) (Row row) = may_row s y row
may_come (Inside s y) ImageEnd = same_or_not y s.height
may_come (Inside s y) StreamEnd = inr (λ may. may)
may_come (Inside s y) Stop = inl tt
may_come After m = inr (λ may. may)

-- ---- the longest prefix

-- from a place on
record IsLongestFrom (place : Place) (prefix l : List Message) : Type 0 where
  rest : List Message
  parts : l ≡ prefix ++ rest
  lawful : IsLawfulFrom place prefix
  longest : (m : Message) (ms : List Message) → rest ≡ m ∷ ms → Accepts (place_of place prefix) m → ⊥

longest_from : (place : Place) (l : List Message) → (prefix : List Message) × IsLongestFrom place prefix l
longest_from place [] = ([], record { rest = []; parts = refl; lawful = tt; longest = λ m ms same. absurd cc })
longest_from place (m ∷ l) = elim (may_come place m) [
  | inl may ↦
      let more = longest_from (place_after place m) l in (
        m ∷ more.0,
        record { rest = more.1.rest; parts = ap (λ (x : List Message). m ∷ x) more.1.parts; lawful = (may, more.1.lawful); longest = more.1.longest },
      )
  | inr not ↦ (
    [],
    record {
      rest = m ∷ l;
      parts = refl;
      lawful = tt;
      longest = λ first ms same may. not (subst (Accepts place) (sym (same_first m first l ms same)) may);
    },
  )
]

pub longest_prefix : (l : List Message) → (prefix : List Message) × IsLongestLawfulPrefix prefix l
longest_prefix l =
    let found = longest_from Between l in
    (found.0, record { rest = found.1.rest; parts = found.1.parts; lawful = found.1.lawful; longest = found.1.longest })
