-- The tuple type that lines have together: one line, without white space at its ends.
use Rattle.pnm_read.proofs.Words.{◌≡◌, ◌≢◌, ℕ, ◌-◌, ◌<◌, ◌≤◌, Bool, true, false, not, ◌&&◌, ◌==◌, if◌then◌else◌, List, [], ◌∷◌, ◌++◌, length, get_or, suc, refl}
use Rattle.pnm_read.proofs.Words.{sym, ap, ◌∙◌, arith, codes, subst, list_all, AllByRecursion, and_parts, nat_tests, AllPass-from_list_all}
use Rattle.pnm_read.proofs.Words.{list_all-from_AllPass, list_all-append, MAX_TUPLE_TYPE_LENGTH, IsTupleType, is_blank, value_of, tuple_type_in, onto_trimmed}
use Rattle.pnm_read.proofs.Words.{begins_with, joined_with, IsOneLine}
use Rattle.std.proofs.Common.{slice_index}
use Rattle.pnm_read.specs.HeaderTexts.{ends_by}
use Rattle.pnm_read.specs.Internal.LineWalks.{trimmed_start, trimmed_end, after_token}
use Rattle.pnm_read.proofs.LineLaws.{if_both}
use Rattle.pnm_read.proofs.WalkLaws.{value_is, tuple_type_in-cons, tuple_type_in-nil}

-- a byte other than LF
abbrev is_other : ℕ → Bool
is_other b = not (b == 10)

abbrev begins_blank : List ℕ → Bool
begins_blank [] = false
begins_blank (b ∷ text) = is_blank b

-- one line, without white space at its ends
record IsTrimmed (text : List ℕ) : Type 0 where
  begins : begins_blank text ≡ false
  ends : ends_by is_blank text ≡ false
  one_line : list_all is_other text ≡ true

-- ---- without white space at the start

starts_trimmed : (text : List ℕ) → begins_blank (trimmed_start text) ≡ false
unfolding trimmed_start
starts_trimmed [] = refl
starts_trimmed (b ∷ text) = by_byte (is_blank b) b text refl (starts_trimmed text)
  where
    by_byte : (w : Bool) (b : ℕ) (text : List ℕ) → is_blank b ≡ w → begins_blank (trimmed_start text) ≡ false
        → begins_blank (if w then trimmed_start text else b ∷ text) ≡ false
    by_byte true b text e h = h
    by_byte false b text e h = e

one_line-start : (text : List ℕ) → list_all is_other text ≡ true → list_all is_other (trimmed_start text) ≡ true
unfolding trimmed_start
one_line-start [] h = refl
one_line-start (b ∷ text) h =
    if_both (λ (l : List ℕ). list_all is_other l ≡ true) (is_blank b) (one_line-start text (and_parts (is_other b) (list_all is_other text) h).1) h

one_line-after : (text : List ℕ) → list_all is_other text ≡ true → list_all is_other (after_token text) ≡ true
unfolding after_token
one_line-after [] h = refl
one_line-after (b ∷ text) h = if_both (λ (l : List ℕ). list_all is_other l ≡ true) (is_blank b) h
    (one_line-after text (and_parts (is_other b) (list_all is_other text) h).1)

-- ---- without white space at the end

onto_ends : (b : ℕ) (rest : List ℕ) → ends_by is_blank rest ≡ false → ends_by is_blank (onto_trimmed b rest) ≡ false
unfolding ends_by
onto_ends b [] h = by_byte (is_blank b) b refl
  where
    by_byte : (w : Bool) (b : ℕ) → is_blank b ≡ w → ends_by is_blank (if w then [] else b ∷ []) ≡ false
    by_byte true b e = refl
    by_byte false b e = e
onto_ends b (c ∷ rest) h = h

onto_one_line : (b : ℕ) (rest : List ℕ) → is_other b ≡ true → list_all is_other rest ≡ true → list_all is_other (onto_trimmed b rest) ≡ true
onto_one_line b [] e h = if_both (λ (l : List ℕ). list_all is_other l ≡ true) (is_blank b) refl (rw e refl)
onto_one_line b (c ∷ rest) e h = rw e h

onto_begins : (b : ℕ) (rest : List ℕ) → is_blank b ≡ false → begins_blank (onto_trimmed b rest) ≡ false
onto_begins b [] e = if_both (λ (l : List ℕ). begins_blank l ≡ false) (is_blank b) refl e
onto_begins b (c ∷ rest) e = e

ends_trimmed : (text : List ℕ) → ends_by is_blank (trimmed_end text) ≡ false
unfolding trimmed_end ends_by
ends_trimmed [] = refl
ends_trimmed (b ∷ text) = onto_ends b (trimmed_end text) (ends_trimmed text)

one_line-end : (text : List ℕ) → list_all is_other text ≡ true → list_all is_other (trimmed_end text) ≡ true
unfolding trimmed_end
one_line-end [] h = refl
one_line-end (b ∷ text) h = let parts = and_parts (is_other b) (list_all is_other text) h in
    onto_one_line b (trimmed_end text) parts.0 (one_line-end text parts.1)

begins-end : (text : List ℕ) → begins_blank text ≡ false → begins_blank (trimmed_end text) ≡ false
unfolding trimmed_end
begins-end [] h = refl
begins-end (b ∷ text) h = onto_begins b (trimmed_end text) h

value_is_trimmed : (line : List ℕ) → list_all is_other line ≡ true → IsTrimmed (value_of line)
value_is_trimmed line h = subst IsTrimmed (sym (value_is line)) (record {
  begins = begins-end (trimmed_start (after_token (trimmed_start line))) (starts_trimmed (after_token (trimmed_start line)));
  ends = ends_trimmed (trimmed_start (after_token (trimmed_start line)));
  one_line = one_line-end (trimmed_start (after_token (trimmed_start line)))
      (one_line-start (after_token (trimmed_start line)) (one_line-after (trimmed_start line) (one_line-start line h)));
})

-- ---- joined

ends_by-append : (test : ℕ → Bool) (prefix : List ℕ) (b : ℕ) (back : List ℕ) → ends_by test (prefix ++ b ∷ back) ≡ ends_by test (b ∷ back)
unfolding ends_by
ends_by-append test [] b back = refl
ends_by-append test (a ∷ []) b back = refl
ends_by-append test (a ∷ c ∷ prefix) b back = ends_by-append test (c ∷ prefix) b back

joined_is_trimmed : (x y : List ℕ) → IsTrimmed x → IsTrimmed y → IsTrimmed (joined_with x y)
unfolding ends_by
joined_is_trimmed [] y p q = q
joined_is_trimmed (a ∷ x) [] p q = p
joined_is_trimmed (a ∷ x) (b ∷ y) p q = record {
  begins = p.begins;
  ends = ends_by-append is_blank (a ∷ x) 32 (b ∷ y) ∙ q.ends;
  one_line = list_all-append is_other (a ∷ x) (32 ∷ b ∷ y) ∙ ap (λ c. c && list_all is_other (b ∷ y)) p.one_line ∙ q.one_line;
}

nothing_is_trimmed : IsTrimmed []
unfolding ends_by
nothing_is_trimmed = record { begins = refl; ends = refl; one_line = refl }

type_is_trimmed : (lines : List (List ℕ)) → AllByRecursion IsOneLine lines → IsTrimmed (tuple_type_in lines)
type_is_trimmed [] one = subst IsTrimmed (sym tuple_type_in-nil) nothing_is_trimmed
type_is_trimmed (line ∷ lines) one =
    subst IsTrimmed (sym (tuple_type_in-cons line lines))
    (if_both IsTrimmed (begins_with (codes "TUPLTYPE") line)
    (joined_is_trimmed (value_of line) (tuple_type_in lines) (value_is_trimmed line (list_all-from_AllPass is_other line one.0))
    (type_is_trimmed lines one.1)) (type_is_trimmed lines one.1))

-- ---- as heads want it

first_is : (text : List ℕ) → begins_blank text ≡ false → 0 < length text → is_blank (slice_index text 0) ≡ false
first_is [] h lt = absurd (omega arith)
first_is (b ∷ text) h lt = h

last_is : (text : List ℕ) → ends_by is_blank text ≡ false → 0 < length text → is_blank (slice_index text (length text - 1)) ≡ false
unfolding ends_by
last_is [] h lt = absurd (omega arith)
last_is (b ∷ []) h lt = h
last_is (b ∷ c ∷ text) h lt = let e : length (b ∷ c ∷ text) - 1 ≡ suc (length (c ∷ text) - 1) = omega arith in rw e (last_is (c ∷ text) h (omega arith))

other_than : (b : ℕ) → is_other b ≡ true → b ≢ 10
other_than b e is = absurd (grind (arith, nat_tests, e, is))

-- the tuple type of lines of a header may stand in a head where it is short enough
pub tuple_type_in-is : (lines : List (List ℕ)) → AllByRecursion IsOneLine lines → length (tuple_type_in lines) ≤ MAX_TUPLE_TYPE_LENGTH
    → IsTupleType (tuple_type_in lines)
tuple_type_in-is lines one short =
    let t = type_is_trimmed lines one in
    record {
      short = short;
      one_line = λ k d lt. other_than (get_or (tuple_type_in lines) k d) (AllPass-from_list_all is_other (tuple_type_in lines) t.one_line k d lt);
      first = first_is (tuple_type_in lines) t.begins;
      last = last_is (tuple_type_in lines) t.ends;
    }

-- nothing is trimmed before a byte that isn't blank
pub trimmed_start-same : (b : ℕ) (text : List ℕ) → is_blank b ≡ false → trimmed_start (b ∷ text) ≡ b ∷ text
unfolding trimmed_start
trimmed_start-same b text h = rw h refl

-- nothing is trimmed after a byte that isn't blank
pub trimmed_end-same : (text : List ℕ) → (0 < length text → is_blank (slice_index text (length text - 1)) ≡ false) → trimmed_end text ≡ text
unfolding trimmed_end
trimmed_end-same [] h = refl
trimmed_end-same (b ∷ []) h = rw (h (omega arith)) refl
trimmed_end-same (b ∷ c ∷ text) h =
    let further : length (b ∷ c ∷ text) - 1 ≡ suc (length (c ∷ text) - 1) = omega arith in
    let last : 0 < length (c ∷ text) → is_blank (slice_index (c ∷ text) (length (c ∷ text) - 1)) ≡ false =
    λ some. subst (λ (i : ℕ). is_blank (slice_index (b ∷ c ∷ text) i) ≡ false) further (h (omega arith)) in
    ap (onto_trimmed b) (trimmed_end-same (c ∷ text) last)
