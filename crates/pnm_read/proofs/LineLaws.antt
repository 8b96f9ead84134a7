-- Lines of a PAM header that is read on by one byte, and what lines together have.
use Rattle.pnm_read.proofs.Words.{◌≡◌, ℕ, Bool, true, false, not, ◌==◌, if◌then◌else◌, List, [], ◌∷◌, ◌++◌, refl, sym, ap, ap₂, subst, ◌∙◌, append_assoc}
use Rattle.pnm_read.proofs.Words.{append-nil, arith, codes, AllByRecursion, nat_tests, All-push, Field, decimal_value, ended_lines, last_line, second_token}
use Rattle.pnm_read.proofs.Words.{value_of, name_of, tuple_type_in, begins_with, joined_with, IsOneLine}
use Rattle.std.specs.List.{flat_map}
use Rattle.pnm_read.specs.PamLines.{field_values}
use Rattle.pnm_read.specs.Internal.LineWalks.{ended_after, last_after}
use Rattle.pnm_read.proofs.WalkLaws.{ended_lines_are, last_line_is, tuple_type_in-cons, tuple_type_in-nil}

-- a choice between equal values is one choice
pub same_if : {A : Type 0} {x y z w : A} (c : Bool) → x ≡ y → z ≡ w → (if c then x else z) ≡ (if c then y else w)
same_if true p q = p
same_if false p q = q

-- a choice of what holds
pub if_both : {A : Type 0} (P : A → Type 0) {x y : A} (c : Bool) → P x → P y → P (if c then x else y)
if_both P true p q = p
if_both P false p q = q

-- three choices by the same
if_both_ways : {A B C : Type 0} (P : A → B → C → Type 0) {a b : A} {c d : B} {e f : C} (w : Bool) → P a c e → P b d f
    → P (if w then a else b) (if w then c else d) (if w then e else f)
if_both_ways P true p q = p
if_both_ways P false p q = q

-- two choices by the same, where it is known
if_known : {A B : Type 0} (P : A → B → Type 0) {a b : A} {c d : B} (w : Bool) → (w ≡ true → P a c) → (w ≡ false → P b d)
    → P (if w then a else b) (if w then c else d)
if_known P true p q = p refl
if_known P false p q = q refl

-- ---- a text with one byte more

ended_after-lf : (line text : List ℕ) → ended_after line (text ++ 10 ∷ []) ≡ ended_after line text ++ last_after line text ∷ []
unfolding ended_after last_after
ended_after-lf line [] = refl
ended_after-lf line (c ∷ text) =
    if_both_ways (λ (l m : List (List ℕ)) (n : List ℕ). l ≡ m ++ n ∷ []) (c == 10) (ap (λ (l : List (List ℕ)). line ∷ l) (ended_after-lf [] text))
    (ended_after-lf (line ++ c ∷ []) text)

last_after-lf : (line text : List ℕ) → last_after line (text ++ 10 ∷ []) ≡ []
unfolding last_after
last_after-lf line [] = refl
last_after-lf line (c ∷ text) = if_both (λ (l : List ℕ). l ≡ []) (c == 10) (last_after-lf [] text) (last_after-lf (line ++ c ∷ []) text)

ended_after-other : (line text : List ℕ) (b : ℕ) → (b == 10) ≡ false → ended_after line (text ++ b ∷ []) ≡ ended_after line text
unfolding ended_after
ended_after-other line [] b e = rw e refl
ended_after-other line (c ∷ text) b e = same_if (c == 10) (ap (λ (l : List (List ℕ)). line ∷ l) (ended_after-other [] text b e))
    (ended_after-other (line ++ c ∷ []) text b e)

last_after-other : (line text : List ℕ) (b : ℕ) → (b == 10) ≡ false → last_after line (text ++ b ∷ []) ≡ last_after line text ++ b ∷ []
unfolding last_after
last_after-other line [] b e = rw e refl
last_after-other line (c ∷ text) b e =
    if_known (λ (l m : List ℕ). l ≡ m ++ b ∷ []) (c == 10) (λ w. last_after-other [] text b e) (λ w. last_after-other (line ++ c ∷ []) text b e)

-- a LF ends the last line
pub ended_lines-lf : (text : List ℕ) → ended_lines (text ++ 10 ∷ []) ≡ ended_lines text ++ last_line text ∷ []
ended_lines-lf text = rw (ended_lines_are (text ++ 10 ∷ []), ended_lines_are text, last_line_is text) (ended_after-lf [] text)

pub last_line-lf : (text : List ℕ) → last_line (text ++ 10 ∷ []) ≡ []
last_line-lf text = last_line_is (text ++ 10 ∷ []) ∙ last_after-lf [] text

-- another byte belongs to it
pub ended_lines-other : (text : List ℕ) (b : ℕ) → (b == 10) ≡ false → ended_lines (text ++ b ∷ []) ≡ ended_lines text
ended_lines-other text b e = rw (ended_lines_are (text ++ b ∷ []), ended_lines_are text) (ended_after-other [] text b e)

pub last_line-other : (text : List ℕ) (b : ℕ) → (b == 10) ≡ false → last_line (text ++ b ∷ []) ≡ last_line text ++ b ∷ []
last_line-other text b e = rw (last_line_is (text ++ b ∷ []), last_line_is text) (last_after-other [] text b e)

-- ---- the whole text

-- lines, each with its LF
abbrev pub with_feeds : List (List ℕ) → List ℕ
with_feeds lines = flat_map (λ line. line ++ 10 ∷ []) lines

feed_after : (line : List ℕ) (c : ℕ) {text : List ℕ} → text ≡ with_feeds (ended_after [] text) ++ last_after [] text → (c == 10) ≡ true
    → line ++ c ∷ text ≡ with_feeds (line ∷ ended_after [] text) ++ last_after [] text
feed_after line c {text} is e =
    let feed : c ≡ 10 = grind (arith, nat_tests, e) in
    ap (λ k. line ++ k ∷ text) feed
    ∙ ap (λ (l : List ℕ). line ++ 10 ∷ l) is
    ∙ sym (append_assoc line (10 ∷ []) (with_feeds (ended_after [] text) ++ last_after [] text))
    ∙ sym (append_assoc (line ++ 10 ∷ []) (with_feeds (ended_after [] text)) (last_after [] text))

text_after : (line text : List ℕ) → line ++ text ≡ with_feeds (ended_after line text) ++ last_after line text
unfolding ended_after last_after
text_after line [] = append-nil line
text_after line (c ∷ text) =
    if_known (λ (lines : List (List ℕ)) (last : List ℕ). line ++ c ∷ text ≡ with_feeds lines ++ last) (c == 10) (λ e. feed_after line c (text_after [] text) e)
    (λ e. sym (append_assoc line (c ∷ []) text) ∙ text_after (line ++ c ∷ []) text)

-- a text is its ended lines, and then its last one
pub text_of_lines : (text : List ℕ) → text ≡ with_feeds (ended_lines text) ++ last_line text
text_of_lines text = text_after [] text
    ∙ ap₂ (λ (lines : List (List ℕ)) (last : List ℕ). with_feeds lines ++ last) (sym (ended_lines_are text)) (sym (last_line_is text))

one_line-push : (line : List ℕ) (b : ℕ) → IsOneLine line → (b == 10) ≡ false → IsOneLine (line ++ b ∷ [])
one_line-push line b one e = All-push (λ x. not (x == 10) ≡ true) line b one (rw e refl)

no_byte : IsOneLine []
no_byte k d lt = absurd (omega arith)

ended_after-are : (line text : List ℕ) → IsOneLine line → AllByRecursion IsOneLine (ended_after line text)
unfolding ended_after
ended_after-are line [] one = tt
ended_after-are line (c ∷ text) one =
    if_known (λ (lines last : List (List ℕ)). AllByRecursion IsOneLine lines) {c = []} {d = []} (c == 10)
    (λ e. (one, ended_after-are [] text no_byte)) (λ e. ended_after-are (line ++ c ∷ []) text (one_line-push line c one e))

last_after-is : (line text : List ℕ) → IsOneLine line → IsOneLine (last_after line text)
unfolding last_after
last_after-is line [] one = one
last_after-is line (c ∷ text) one =
    if_known (λ (line : List ℕ) (none : List ℕ). IsOneLine line) {c = []} {d = []} (c == 10) (λ e. last_after-is [] text no_byte)
    (λ e. last_after-is (line ++ c ∷ []) text (one_line-push line c one e))

-- no line has a LF
pub ended_lines-are : (text : List ℕ) → AllByRecursion IsOneLine (ended_lines text)
ended_lines-are text = subst (AllByRecursion IsOneLine) (sym (ended_lines_are text)) (ended_after-are [] text no_byte)

pub last_line-is : (text : List ℕ) → IsOneLine (last_line text)
last_line-is text = subst IsOneLine (sym (last_line_is text)) (last_after-is [] text no_byte)

-- ---- what lines together have

pub field_values-append : (field : Field) (xs ys : List (List ℕ)) → field_values field (xs ++ ys) ≡ field_values field xs ++ field_values field ys
unfolding field_values
field_values-append field [] ys = refl
field_values-append field (line ∷ xs) ys =
    if_known (λ (l m : List ℕ). l ≡ m ++ field_values field ys) (begins_with (name_of field) line)
    (λ e. ap (λ (l : List ℕ). decimal_value (second_token line) ∷ l) (field_values-append field xs ys)) (λ e. field_values-append field xs ys)

pub joined_with-nothing : (text : List ℕ) → joined_with text [] ≡ text
joined_with-nothing [] = refl
joined_with-nothing (b ∷ text) = refl

-- joining is associative
pub joined_with-assoc : (x y z : List ℕ) → joined_with (joined_with x y) z ≡ joined_with x (joined_with y z)
joined_with-assoc [] y z = refl
joined_with-assoc (a ∷ x) [] z = refl
joined_with-assoc (a ∷ x) (b ∷ y) [] = refl
joined_with-assoc (a ∷ x) (b ∷ y) (c ∷ z) = append_assoc (a ∷ x) (32 ∷ b ∷ y) (32 ∷ c ∷ z)

pub tuple_type_in-append : (xs ys : List (List ℕ)) → tuple_type_in (xs ++ ys) ≡ joined_with (tuple_type_in xs) (tuple_type_in ys)
tuple_type_in-append [] ys = ap (λ (l : List ℕ). joined_with l (tuple_type_in ys)) (sym tuple_type_in-nil)
tuple_type_in-append (line ∷ xs) ys =
    tuple_type_in-cons line (xs ++ ys)
    ∙ if_known (λ (l m : List ℕ). l ≡ joined_with m (tuple_type_in ys)) (begins_with (codes "TUPLTYPE") line)
    (λ e. ap (joined_with (value_of line)) (tuple_type_in-append xs ys) ∙ sym (joined_with-assoc (value_of line) (tuple_type_in xs) (tuple_type_in ys)))
    (λ e. tuple_type_in-append xs ys)
    ∙ ap (λ (l : List ℕ). joined_with l (tuple_type_in ys)) (sym (tuple_type_in-cons line xs))
