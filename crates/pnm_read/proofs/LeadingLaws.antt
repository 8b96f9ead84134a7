-- What the bytes of a plain raster tell by themselves of the samples that they begin with.
use Rattle.pnm_read.proofs.Words.{◌≡◌, ℕ, suc, ◌+◌, ◌-◌, ◌*◌, ◌<◌, ◌≤◌, ◌⊎◌, Bool, true, false, ◌&&◌, ◌||◌, List, [], ◌∷◌, ◌++◌, length, take, drop, get_or}
use Rattle.pnm_read.proofs.Words.{Result, Ok, Err, refl, sym, ap, ap₂, subst, inl, inr, ◌∙◌, append_assoc, append-nil, drop-cons, arith, IfOk, AllPass}
use Rattle.pnm_read.proofs.Words.{from_bool, digits_value_push, take-add, drop-drop, take-append-drop, length-take-le, get_or-drop, drop-append-le, All-nil}
use Rattle.pnm_read.proofs.Words.{All-cons, All-head, All-tail, All-push, All-append, Kind, Bit, Gray, Color, Pam, is_white, is_digit, InputFault, is_apart}
use Rattle.pnm_read.proofs.Words.{begins_apart, ends_in_comment, uncommented, IsGap, SpellsDecimal, ◌>>=◌, plain_pixel, plain_decimal, plain_sample}
use Rattle.pnm_read.proofs.Words.{IsNumberFirst, IsSampleFirst, TakesSamples, GAP_LIMIT}
use Rattle.std.proofs.Common.{length-append, length-drop}
use Rattle.std.specs.Prelude.{◌==◌}
use Rattle.pnm_read.specs.HeaderTexts.{uncommented_from}
use Rattle.pnm_read.specs.Said.{in_turn}
use Rattle.pnm_read.proofs.SampleLaws.{spelled_piece_is_read}
use Rattle.pnm_read.proofs.UnitLaws.{items_of, and_items, in_turn-add}
use Rattle.pnm_read.proofs.PartLaws.{one_is_read}
use Rattle.pnm_read.proofs.WordLaws.{white_is_not_sharp, digit_value_is}

-- ---- white space

-- no comment is in white space
uncommented_white : (text : List ℕ) → AllPass is_white text → uncommented text ≡ text
unfolding uncommented_from
uncommented_white [] all = refl
uncommented_white (b ∷ text) all =
    let first : (b == 35) ≡ false = white_is_not_sharp b (All-head (λ x. is_white x ≡ true) b text all) in
    rw first (ap (λ (t : List ℕ). b ∷ t) (uncommented_white text (All-tail (λ x. is_white x ≡ true) b text all)))

white_is_outside : (text : List ℕ) → AllPass is_white text → ends_in_comment text ≡ false
white_is_outside [] all = refl
white_is_outside (b ∷ text) all =
    let first : (b == 35) ≡ false = white_is_not_sharp b (All-head (λ x. is_white x ≡ true) b text all) in
    rw first (white_is_outside text (All-tail (λ x. is_white x ≡ true) b text all))

white_is_gap : {text : List ℕ} → AllPass is_white text → IsGap text
white_is_gap {text} all = record { white = subst (AllPass is_white) (sym (uncommented_white text all)) all; outside = white_is_outside text all }

white_is_apart : (b : ℕ) → is_white b ≡ true → is_apart b ≡ true
white_is_apart b h = ap (λ (t : Bool). t || (b == 35)) h

-- white space that goes on
white_on : (bytes : List ℕ) (taken at skipped : ℕ) → taken ≤ at → AllPass is_white (take (at - taken) (drop taken bytes))
    → AllPass is_white (take skipped (drop at bytes)) → AllPass is_white (take ((at - taken) + skipped) (drop taken bytes))
white_on bytes taken at skipped before first then =
    let on : taken + (at - taken) ≡ at = omega arith in
    let rest : drop (at - taken) (drop taken bytes) ≡ drop at bytes = drop-drop (at - taken) taken bytes ∙ ap (λ (n : ℕ). drop n bytes) on in
    subst (AllPass is_white) (sym (take-add (at - taken) skipped (drop taken bytes)))
    (All-append (λ x. is_white x ≡ true) (take (at - taken) (drop taken bytes)) (take skipped (drop (at - taken) (drop taken bytes))) first
    (subst (λ (l : List ℕ). AllPass is_white (take skipped l)) (sym rest) then))

-- the byte at a place, and those from there on
drop_at : (bytes : List ℕ) (n : ℕ) → n < length bytes → drop n bytes ≡ get_or bytes n 0 ∷ drop (suc n) bytes
drop_at bytes n some = drop-cons bytes n 0 some

-- one byte of white space
one_white : (bytes : List ℕ) (n : ℕ) → n < length bytes → is_white (get_or bytes n 0) ≡ true → AllPass is_white (take 1 (drop n bytes))
one_white bytes n some white = subst (λ (l : List ℕ). AllPass is_white (take 1 l)) (sym (drop_at bytes n some))
    (All-cons (λ x. is_white x ≡ true) (get_or bytes n 0) [] white (All-nil (λ x. is_white x ≡ true)))

-- ---- numbers

-- a number with one digit more
digit_more : (digits : List ℕ) (number b value : ℕ) → SpellsDecimal digits number → is_digit b ≡ true → value ≡ b - 48
    → SpellsDecimal (digits ++ b ∷ []) (number * 10 + value)
digit_more digits number b value s h e = record {
  some = omega (arith, s.some, length-append digits (b ∷ []));
  digits = All-push (λ x. is_digit x ≡ true) digits b s.digits h;
  value = digits_value_push 10 digits b ∙ ap₂ (λ (m n : ℕ). m * 10 + n) s.value (digit_value_is b h ∙ sym e);
}

one_digit : (b value : ℕ) → is_digit b ≡ true → value ≡ b - 48 → SpellsDecimal (b ∷ []) value
one_digit b value h e = record {
  some = omega arith;
  digits = All-cons (λ x. is_digit x ≡ true) b [] h (All-nil (λ x. is_digit x ≡ true));
  value = omega (arith, digits_value_push 10 [] b, digit_value_is b h, e);
}

-- what the byte is, if it is a digit
abbrev pub IsValue : ℕ → ℕ → Type 0
IsValue b value = is_digit b ≡ true → value ≡ b - 48

-- how many of two bytes, or of four, are digits before the first that isn't one, by whether each is
abbrev pub digits_of_two : Bool → Bool → ℕ
digits_of_two b c = from_bool b + from_bool (b && c)

abbrev pub digits_of_four : Bool → Bool → Bool → Bool → ℕ
digits_of_four b c d e = from_bool b + from_bool (b && c) + from_bool ((b && c) && d) + from_bool (((b && c) && d) && e)

-- the numbers of one digit to three, and to five
abbrev pub numbers_of_three : ℕ → ℕ → ℕ → List ℕ
numbers_of_three a b c = a ∷ (a * 10 + b) ∷ ((a * 10 + b) * 10 + c) ∷ []

abbrev pub numbers_of_five : ℕ → ℕ → ℕ → ℕ → ℕ → List ℕ
numbers_of_five a b c d e = a ∷ (a * 10 + b) ∷ ((a * 10 + b) * 10 + c) ∷ (((a * 10 + b) * 10 + c) * 10 + d) ∷ ((((a * 10 + b) * 10 + c) * 10 + d) * 10 + e) ∷ []

-- a number of one digit, two, three, four, five
of_one : {a b : ℕ} {after : List ℕ} {va : ℕ} → is_digit a ≡ true → IsValue a va → is_white b ≡ true → IsNumberFirst (a ∷ b ∷ after) va 1
of_one {a} {va} ha fa white = record { within = omega arith; spells = one_digit a va ha (fa ha); follows = white }

spells_two : {a b : ℕ} (va vb : ℕ) → is_digit a ≡ true → IsValue a va → is_digit b ≡ true → IsValue b vb → SpellsDecimal (a ∷ b ∷ []) (va * 10 + vb)
spells_two {a} {b} va vb ha fa hb fb = digit_more (a ∷ []) va b vb (one_digit a va ha (fa ha)) hb (fb hb)

spells_three : {a b c : ℕ} (va vb vc : ℕ) → is_digit a ≡ true → IsValue a va → is_digit b ≡ true → IsValue b vb → is_digit c ≡ true → IsValue c vc
    → SpellsDecimal (a ∷ b ∷ c ∷ []) ((va * 10 + vb) * 10 + vc)
spells_three {a} {b} {c} va vb vc ha fa hb fb hc fc = digit_more (a ∷ b ∷ []) (va * 10 + vb) c vc (spells_two va vb ha fa hb fb) hc (fc hc)

spells_four : {a b c d : ℕ} (va vb vc vd : ℕ) → is_digit a ≡ true → IsValue a va → is_digit b ≡ true → IsValue b vb → is_digit c ≡ true → IsValue c vc
    → is_digit d ≡ true → IsValue d vd → SpellsDecimal (a ∷ b ∷ c ∷ d ∷ []) (((va * 10 + vb) * 10 + vc) * 10 + vd)
spells_four {a} {b} {c} {d} va vb vc vd ha fa hb fb hc fc hd fd =
    digit_more (a ∷ b ∷ c ∷ []) ((va * 10 + vb) * 10 + vc) d vd (spells_three va vb vc ha fa hb fb hc fc) hd (fd hd)

number_of_four : {a b c d : ℕ} {after : List ℕ} (va vb vc : ℕ) (tb tc : Bool) → is_digit a ≡ true → IsValue a va → IsValue b vb → IsValue c vc
    → is_digit b ≡ tb → is_digit c ≡ tc → is_white (get_or (b ∷ c ∷ d ∷ []) (digits_of_two tb tc) 0) ≡ true → IsNumberFirst (a ∷ b ∷ c ∷ d ∷ after)
    (get_or (numbers_of_three va vb vc) (digits_of_two tb tc) 0) (digits_of_two tb tc + 1)
number_of_four va vb vc false tc ha fa fb fc hb hc white = of_one ha fa white
number_of_four va vb vc true false ha fa fb fc hb hc white =
    record { within = omega arith; spells = spells_two va vb ha fa hb fb; follows = white }
number_of_four va vb vc true true ha fa fb fc hb hc white =
    record { within = omega arith; spells = spells_three va vb vc ha fa hb fb hc fc; follows = white }

number_of_six : (a b c d e f : ℕ) (after : List ℕ) (va vb vc vd ve : ℕ) (tb tc td te : Bool) → is_digit a ≡ true → IsValue a va → IsValue b vb → IsValue c vc
    → IsValue d vd → IsValue e ve
    → is_digit b ≡ tb → is_digit c ≡ tc → is_digit d ≡ td → is_digit e ≡ te → is_white (get_or (b ∷ c ∷ d ∷ e ∷ f ∷ []) (digits_of_four tb tc td te) 0) ≡ true
    → IsNumberFirst (a ∷ b ∷ c ∷ d ∷ e ∷ f ∷ after) (get_or (numbers_of_five va vb vc vd ve) (digits_of_four tb tc td te) 0) (digits_of_four tb tc td te + 1)
number_of_six a b c d e f after va vb vc vd ve false tc td te ha fa fb fc fd fe hb hc hd he white = of_one ha fa white
number_of_six a b c d e f after va vb vc vd ve true false td te ha fa fb fc fd fe hb hc hd he white =
    record { within = omega arith; spells = spells_two va vb ha fa hb fb; follows = white }
number_of_six a b c d e f after va vb vc vd ve true true false te ha fa fb fc fd fe hb hc hd he white =
    record { within = omega arith; spells = spells_three va vb vc ha fa hb fb hc fc; follows = white }
number_of_six a b c d e f after va vb vc vd ve true true true false ha fa fb fc fd fe hb hc hd he white =
    record { within = omega arith; spells = spells_four va vb vc vd ha fa hb fb hc fc hd fd; follows = white }
number_of_six a b c d e f after va vb vc vd ve true true true true ha fa fb fc fd fe hb hc hd he white = record {
  within = omega arith;
  spells = digit_more (a ∷ b ∷ c ∷ d ∷ []) (((va * 10 + vb) * 10 + vc) * 10 + vd) e ve (spells_four va vb vc vd ha fa hb fb hc fc hd fd) he (fe he);
  follows = white;
}

-- the number that bytes begin with, by their first four
pub short_number_is_first : (bytes : List ℕ) (va vb vc more : ℕ) → 4 ≤ length bytes → is_digit (get_or bytes 0 0) ≡ true → IsValue (get_or bytes 0 0) va
    → IsValue (get_or bytes 1 0) vb → IsValue (get_or bytes 2 0) vc
    → more ≡ digits_of_two (is_digit (get_or bytes 1 0)) (is_digit (get_or bytes 2 0))
    → is_white (get_or (get_or bytes 1 0 ∷ get_or bytes 2 0 ∷ get_or bytes 3 0 ∷ []) more 0) ≡ true
    → IsNumberFirst bytes (get_or (numbers_of_three va vb vc) more 0) (more + 1)
short_number_is_first [] va vb vc more four ha fa fb fc is white = absurd (omega arith)
short_number_is_first (a ∷ []) va vb vc more four ha fa fb fc is white = absurd (omega arith)
short_number_is_first (a ∷ b ∷ []) va vb vc more four ha fa fb fc is white = absurd (omega arith)
short_number_is_first (a ∷ b ∷ c ∷ []) va vb vc more four ha fa fb fc is white = absurd (omega arith)
short_number_is_first (a ∷ b ∷ c ∷ d ∷ after) va vb vc more four ha fa fb fc is white =
    subst (λ (n : ℕ). IsNumberFirst (a ∷ b ∷ c ∷ d ∷ after) (get_or (numbers_of_three va vb vc) n 0) (n + 1)) (sym is)
    (number_of_four va vb vc (is_digit b) (is_digit c) ha fa fb fc refl refl (subst (λ (n : ℕ). is_white (get_or (b ∷ c ∷ d ∷ []) n 0) ≡ true) is white))

-- by their first six
pub number_is_first : (bytes : List ℕ) (va vb vc vd ve more : ℕ) → 6 ≤ length bytes → is_digit (get_or bytes 0 0) ≡ true → IsValue (get_or bytes 0 0) va
    → IsValue (get_or bytes 1 0) vb → IsValue (get_or bytes 2 0) vc
    → IsValue (get_or bytes 3 0) vd → IsValue (get_or bytes 4 0) ve → more ≡ digits_of_four (is_digit (get_or bytes 1 0)) (is_digit (get_or bytes 2 0))
    (is_digit (get_or bytes 3 0)) (is_digit (get_or bytes 4 0))
    → is_white (get_or (get_or bytes 1 0 ∷ get_or bytes 2 0 ∷ get_or bytes 3 0 ∷ get_or bytes 4 0 ∷ get_or bytes 5 0 ∷ []) more 0) ≡ true
    → IsNumberFirst bytes (get_or (numbers_of_five va vb vc vd ve) more 0) (more + 1)
number_is_first [] va vb vc vd ve more six ha fa fb fc fd fe is white = absurd (omega arith)
number_is_first (a ∷ []) va vb vc vd ve more six ha fa fb fc fd fe is white = absurd (omega arith)
number_is_first (a ∷ b ∷ []) va vb vc vd ve more six ha fa fb fc fd fe is white = absurd (omega arith)
number_is_first (a ∷ b ∷ c ∷ []) va vb vc vd ve more six ha fa fb fc fd fe is white = absurd (omega arith)
number_is_first (a ∷ b ∷ c ∷ d ∷ []) va vb vc vd ve more six ha fa fb fc fd fe is white = absurd (omega arith)
number_is_first (a ∷ b ∷ c ∷ d ∷ e ∷ []) va vb vc vd ve more six ha fa fb fc fd fe is white = absurd (omega arith)
number_is_first (a ∷ b ∷ c ∷ d ∷ e ∷ f ∷ after) va vb vc vd ve more six ha fa fb fc fd fe is white =
    subst (λ (n : ℕ). IsNumberFirst (a ∷ b ∷ c ∷ d ∷ e ∷ f ∷ after) (get_or (numbers_of_five va vb vc vd ve) n 0) (n + 1)) (sym is)
    (number_of_six a b c d e f after va vb vc vd ve (is_digit b) (is_digit c) (is_digit d) (is_digit e) ha fa fb fc fd fe refl refl refl refl
    (subst (λ (n : ℕ). is_white (get_or (b ∷ c ∷ d ∷ e ∷ f ∷ []) n 0) ≡ true) is white))

-- ---- a sample after white space

-- the first bytes in two parts, and the others
in_parts : (a b : ℕ) (bytes rest : List ℕ) → bytes ++ rest ≡ take (a + b) bytes ++ (drop (a + b) bytes ++ rest)
in_parts a b bytes rest = ap (λ (l : List ℕ). l ++ rest) (sym (take-append-drop (a + b) bytes)) ∙ append_assoc (take (a + b) bytes) (drop (a + b) bytes) rest

-- where a byte of white space comes, digits have ended
ends_there : (bytes rest : List ℕ) (n : ℕ) → n < length bytes → is_white (get_or bytes n 0) ≡ true → begins_apart (drop n bytes ++ rest) ≡ true
ends_there bytes rest n some white = ap (λ (l : List ℕ). begins_apart (l ++ rest)) (drop_at bytes n some) ∙ white_is_apart (get_or bytes n 0) white

number_is_read : (maxval gap : ℕ) {number count : ℕ} {bytes : List ℕ} → length bytes ≤ GAP_LIMIT → AllPass is_white (take gap bytes)
    → IsNumberFirst (drop gap bytes) number count → number ≤ maxval → IsSampleFirst (plain_decimal maxval) bytes number (gap + count)
number_is_read maxval gap {number} {count} {bytes} short white t range =
    let some : gap + count < length bytes = omega (arith, t.within, length-drop gap bytes) in
    let most : gap + count ≤ length bytes = omega arith in
    let follows : is_white (get_or bytes (gap + count) 0) ≡ true = ap is_white (sym (get_or-drop gap bytes count 0)) ∙ t.follows in record {
      within = most;
      read = λ rest. ap (plain_decimal maxval) (in_parts gap count bytes rest)
          ∙ spelled_piece_is_read Gray maxval (take (gap + count) bytes) (drop (gap + count) bytes ++ rest) number (record {
            gap = take gap bytes;
            digits = take count (drop gap bytes);
            whole = take-add gap count bytes;
            gap_is = white_is_gap white;
            digits_are = t.spells;
            short = omega (arith, length-take-le (gap + count) bytes most);
          }) (ends_there bytes rest (gap + count) some follows) range;
    }

pixel_is_read : (gap : ℕ) {b sample : ℕ} {bytes : List ℕ} → length bytes ≤ GAP_LIMIT → gap < length bytes → AllPass is_white (take gap bytes)
    → get_or bytes gap 0 ≡ b → 48 ≤ b → sample ≡ 49 - b → b ≤ 49 → IsSampleFirst plain_pixel bytes sample (gap + 1)
pixel_is_read gap {b} {sample} {bytes} short some white is low is_sample high =
    let most : gap + 1 ≤ length bytes = omega arith in
    let small : sample ≤ 1 = omega arith in
    let back : b ≡ 49 - sample = omega arith in
    let text : take 1 (drop gap bytes) ≡ (49 - sample) ∷ [] = ap (λ (l : List ℕ). take 1 l) (drop_at bytes gap some) ∙ ap (λ (n : ℕ). n ∷ []) (is ∙ back) in
    record {
      within = most;
      read = λ rest. ap plain_pixel (in_parts gap 1 bytes rest)
          ∙ spelled_piece_is_read Bit 1 (take (gap + 1) bytes) (drop (gap + 1) bytes ++ rest) sample (record {
            gap = take gap bytes;
            digits = take 1 (drop gap bytes);
            whole = take-add gap 1 bytes;
            gap_is = white_is_gap white;
            digits_are = (small, text);
            short = omega (arith, length-take-le (gap + 1) bytes most);
          }) tt small;
    }

-- a sample is a number, unless it is a bit
pub number_by_kind : (kind : Kind) (maxval : ℕ) → (kind ≡ Gray) ⊎ ((kind ≡ Color) ⊎ (kind ≡ Pam)) → plain_decimal maxval ≡ plain_sample kind maxval
number_by_kind Bit maxval (inl e) = absurd cc
number_by_kind Bit maxval (inr (inl e)) = absurd cc
number_by_kind Bit maxval (inr (inr e)) = absurd cc
number_by_kind Gray maxval is = refl
number_by_kind Color maxval is = refl
number_by_kind Pam maxval is = refl

-- ---- samples in turn

pub takes_none : {item : List ℕ → Result (ℕ × List ℕ) InputFault} {bytes row : List ℕ} → TakesSamples item bytes row row 0
unfolding in_turn
takes_none {row} = record { samples = []; within = omega arith; appended = sym (append-nil row); read = λ rest. refl }

one_more : (item : List ℕ → Result (ℕ × List ℕ) InputFault) (n sample : ℕ) (samples text now rest : List ℕ) → in_turn item n text ≡ Ok (samples, now)
    → item now ≡ Ok (sample, rest)
    → in_turn item (n + 1) text ≡ Ok (samples ++ sample ∷ [], rest)
one_more item n sample samples text now rest e f =
    in_turn-add item n 1 text ∙ ap (λ r. r >>= λ items. and_items item 1 items.0 items.1) e
    ∙ ap (λ r. r >>= λ more. items_of (samples ++ more.0) more.1) (one_is_read item sample now rest f)

takes_more : (item : List ℕ → Result (ℕ × List ℕ) InputFault) (bytes old now new : List ℕ) (taken sample count : ℕ) → TakesSamples item bytes old now taken
    → IsSampleFirst item (drop taken bytes) sample count → new ≡ now ++ sample ∷ []
    → TakesSamples item bytes old new (taken + count)
takes_more item bytes old now new taken sample count t f e = record {
  samples = t.samples ++ sample ∷ [];
  within = omega (arith, t.within, f.within, length-drop taken bytes);
  appended = e ∙ ap (λ (l : List ℕ). l ++ sample ∷ []) t.appended ∙ append_assoc old t.samples (sample ∷ []);
  read = λ rest.
      ap (λ (n : ℕ). in_turn item n (bytes ++ rest)) (length-append t.samples (sample ∷ []))
      ∙ one_more item (length t.samples) sample t.samples (bytes ++ rest) (drop taken bytes ++ rest) (drop count (drop taken bytes) ++ rest) (t.read rest)
      (f.read rest)
      ∙ ap (λ (l : List ℕ). Ok (t.samples ++ sample ∷ [], l ++ rest)) (drop-drop count taken bytes);
}

-- samples of the first bytes are samples of all
takes_of_prefix : {item : List ℕ → Result (ℕ × List ℕ) InputFault} (n : ℕ) {bytes old new : List ℕ} {taken : ℕ} → n ≤ length bytes
    → TakesSamples item (take n bytes) old new taken → TakesSamples item bytes old new taken
takes_of_prefix {item} n {bytes} {taken} some t =
    let long : length (take n bytes) ≡ n = length-take-le n bytes some in
    let whole : take n bytes ++ drop n bytes ≡ bytes = take-append-drop n bytes in record {
      samples = t.samples;
      within = omega (arith, t.within);
      appended = t.appended;
      read = λ rest. ap (λ (l : List ℕ). in_turn item (length t.samples) (l ++ rest)) (sym whole)
          ∙ ap (in_turn item (length t.samples)) (append_assoc (take n bytes) (drop n bytes) rest) ∙ t.read (drop n bytes ++ rest)
          ∙ ap (λ (l : List ℕ). Ok (t.samples, l)) (sym (append_assoc (drop taken (take n bytes)) (drop n bytes) rest)
          ∙ ap (λ (l : List ℕ). l ++ rest) (sym (drop-append-le taken (take n bytes) (drop n bytes) t.within) ∙ ap (λ (l : List ℕ). drop taken l) whole));
    }

-- a call takes what was found
pub all_taken : {E : Type 0} (item : List ℕ → Result (ℕ × List ℕ) InputFault) (n : ℕ) (bytes old new : List ℕ) (r : Result ℕ E) → n ≤ length bytes
    → IfOk r (TakesSamples item (take n bytes) old new) → IfOk r (TakesSamples item bytes old new)
all_taken item n bytes old new (Ok taken) some t = takes_of_prefix n some t
all_taken item n bytes old new (Err e) some t = tt

-- ---- steps

-- from a place on only white space has come, up to another place
pub record IsWhiteFrom (bytes : List ℕ) (taken at : ℕ) : Type 0 where
  pub before : taken ≤ at
  pub within : at ≤ length bytes
  pub white : AllPass is_white (take (at - taken) (drop taken bytes))

pub white_at_once : {bytes : List ℕ} {at : ℕ} → at ≤ length bytes → IsWhiteFrom bytes at at
white_at_once {bytes} {at} some =
    let none : at - at ≡ 0 = omega arith in
    record {
      before = omega arith;
      within = some;
      white = subst (λ (n : ℕ). AllPass is_white (take n (drop at bytes))) (sym none) (All-nil (λ x. is_white x ≡ true));
    }

-- one byte more
pub white_more : {bytes : List ℕ} {taken at : ℕ} → IsWhiteFrom bytes taken at → at < length bytes → is_white (get_or bytes at 0) ≡ true
    → IsWhiteFrom bytes taken (at + 1)
white_more {bytes} {taken} {at} w some white =
    let one : (at - taken) + 1 ≡ at + 1 - taken = omega (arith, w.before) in record {
      before = omega (arith, w.before);
      within = omega arith;
      white = subst (λ (n : ℕ). AllPass is_white (take n (drop taken bytes))) one (white_on bytes taken at 1 w.before w.white (one_white bytes at some white));
    }

-- a number more
pub number_taken : (maxval : ℕ) {bytes old now new : List ℕ} {taken at : ℕ} (skipped : ℕ) {number count : ℕ} → length bytes ≤ GAP_LIMIT
    → TakesSamples (plain_decimal maxval) bytes old now taken → IsWhiteFrom bytes taken at → AllPass is_white (take skipped (drop at bytes))
    → IsNumberFirst (drop (at + skipped) bytes) number count → number ≤ maxval → new ≡ now ++ number ∷ []
    → TakesSamples (plain_decimal maxval) bytes old new (at + skipped + count)
number_taken maxval {bytes} {old} {now} {new} {taken} {at} skipped {number} {count} short t w white f range e =
    let gap : taken + ((at - taken) + skipped) ≡ at + skipped = omega (arith, w.before) in
    let there : drop ((at - taken) + skipped) (drop taken bytes) ≡ drop (at + skipped) bytes = drop-drop ((at - taken) + skipped) taken bytes
    ∙ ap (λ (n : ℕ). drop n bytes) gap in
    let read = number_is_read maxval ((at - taken) + skipped) (omega (arith, length-drop taken bytes))
    (white_on bytes taken at skipped w.before w.white white) (subst (λ (l : List ℕ). IsNumberFirst l number count) (sym there) f) range in
    let sum : taken + (((at - taken) + skipped) + count) ≡ at + skipped + count = omega (arith, w.before) in
    subst (λ (n : ℕ). TakesSamples (plain_decimal maxval) bytes old new n) sum
    (takes_more (plain_decimal maxval) bytes old now new taken number (((at - taken) + skipped) + count) t read e)

-- the byte after it is white space
pub white_after_number : {bytes : List ℕ} (start : ℕ) {number count : ℕ} → IsNumberFirst (drop start bytes) number count → IsWhiteFrom bytes (start + count)
    (start + count + 1)
white_after_number {bytes} start {count} f =
    let some : start + count < length bytes = omega (arith, f.within, length-drop start bytes) in
    white_more (white_at_once (omega arith)) some (ap is_white (sym (get_or-drop start bytes count 0)) ∙ f.follows)

-- a pixel more
pub pixel_taken : {bytes old now new : List ℕ} {taken at sample : ℕ} → length bytes ≤ GAP_LIMIT → TakesSamples plain_pixel bytes old now taken
    → IsWhiteFrom bytes taken at → at < length bytes → 48 ≤ get_or bytes at 0 → get_or bytes at 0 ≤ 49 → sample ≡ 49 - get_or bytes at 0
    → new ≡ now ++ sample ∷ [] → TakesSamples plain_pixel bytes old new (at + 1)
pixel_taken {bytes} {old} {now} {new} {taken} {at} {sample} short t w some low high is e =
    let on : taken + (at - taken) ≡ at = omega (arith, w.before) in
    let byte : get_or (drop taken bytes) (at - taken) 0 ≡ get_or bytes at 0 = get_or-drop taken bytes (at - taken) 0 ∙ ap (λ (n : ℕ). get_or bytes n 0) on in
    let read = pixel_is_read (at - taken) (omega (arith, length-drop taken bytes))
    (omega (arith, length-drop taken bytes, w.before)) w.white byte low is high in
    let sum : taken + ((at - taken) + 1) ≡ at + 1 = omega (arith, w.before) in
    subst (λ (n : ℕ). TakesSamples plain_pixel bytes old new n) sum (takes_more plain_pixel bytes old now new taken sample ((at - taken) + 1) t read e)

-- ---- how many of some tests hold

pub at_most_one : (test : Bool) {n : ℕ} → n ≡ from_bool test → n ≤ 1
at_most_one true e = omega (arith, e)
at_most_one false e = omega (arith, e)
