-- Lists that are repeated.
use Rattle.std.proofs.Common.{◌≡◌, ◌∙◌, ℕ, zero, suc, ◌+◌, ◌-◌, ◌≤◌, List, [], ◌∷◌, ◌++◌, ◌*◌, All, get_or, length, refl, ap, sym, subst, arith}
use Rattle.std.specs.List.{AllByRecursion}
use Rattle.pnm_image.proofs.Lists.{all_of_prefix}
use Rattle.std.proofs.lemmas.List.{append-nil, append_assoc, length-append, map-append}
use Rattle.std.proofs.lemmas.List.Elements.{All-append, All-nil}
use Rattle.pnm_image.specs.declared.message.Message.TheVariants.{Row}
use Rattle.pnm_image.specs.Repeats.{repeated}
use Rattle.pnm_image.specs.Rows.{row_messages}

-- a list once
pub repeated_once : {A : Type 0} → (l : List A) → repeated 1 l ≡ l
repeated_once l = append-nil l

-- and once more
pub repeated_more : {A : Type 0} → (n : ℕ) (l : List A) → repeated n l ++ l ≡ repeated (suc n) l
repeated_more zero l = sym (append-nil l)
repeated_more (suc n) l = append_assoc l (repeated n l) l ∙ ap (λ m. l ++ m) (repeated_more n l)

-- it has several elements, where it comes several times
pub repeated_several : {A : Type 0} → (n : ℕ) (l : List A) → 2 ≤ n → 1 ≤ length l → 2 ≤ length (repeated n l)
repeated_several zero l several some = absurd (omega (arith, several))
repeated_several (suc zero) l several some = absurd (omega (arith, several))
repeated_several (suc (suc n)) l several some =
    omega (arith, length-append l (l ++ repeated n l), length-append l (repeated n l), some)

-- and some
pub repeated_some : {A : Type 0} → (n : ℕ) (l : List A) → 1 ≤ n → 1 ≤ length l → 1 ≤ length (repeated n l)
repeated_some zero l times some = absurd (omega (arith, times))
repeated_some (suc n) l times some = omega (arith, length-append l (repeated n l), some)

-- its first element is the list's
pub repeated_first : {A : Type 0} → (n : ℕ) (l : List A) (d : A) → 1 ≤ length (repeated n l) → get_or (repeated n l) 0 d ≡ get_or l 0 d
repeated_first zero l d some = absurd (omega (arith, some))
repeated_first (suc n) [] d some = repeated_first n [] d some
repeated_first (suc n) (x ∷ l) d some = refl

-- it comes some times first, and then the others
pub repeated_parts : {A : Type 0} → (m n : ℕ) (l : List A) → repeated (m + n) l ≡ repeated m l ++ repeated n l
repeated_parts zero n l = let same : zero + n ≡ n = omega arith in ap (λ (k : ℕ). repeated k l) same
repeated_parts (suc m) n l =
    let more : suc m + n ≡ suc (m + n) = omega arith in
    ap (λ (k : ℕ). repeated k l) more ∙ ap (λ k. l ++ k) (repeated_parts m n l) ∙ sym (append_assoc l (repeated m l) (repeated n l))

-- each time as many elements
pub length_of_repeated : {A : Type 0} → (n : ℕ) (l : List A) → length (repeated n l) ≡ length l * n
length_of_repeated zero l = omega arith
length_of_repeated (suc n) l = omega (arith, length-append l (repeated n l), length_of_repeated n l)

-- what holds of all elements holds of all of them each time
pub all_of_repeated : {A : Type 0} (P : A → Type 0) (n : ℕ) (l : List A) → All P l → All P (repeated n l)
all_of_repeated P zero l all = All-nil P
all_of_repeated P (suc n) l all = All-append P l (repeated n l) all (all_of_repeated P n l all)

-- some copies, and the others
pub copies_first : {A : Type 0} (n times : ℕ) (l all copies : List A) → all ≡ repeated times l → copies ≡ repeated n l → n ≤ times
    → all ≡ copies ++ repeated (times - n) l
copies_first {A = A} n times l all copies is some within =
    let parts : times ≡ n + (times - n) = omega (arith, within) in
    is ∙ ap (λ (k : ℕ). repeated k l) parts ∙ repeated_parts n (times - n) l ∙ ap (λ (m : List A). m ++ repeated (times - n) l) (sym some)

pub some_copies : {A : Type 0} (n : ℕ) (l copies : List A) → copies ≡ repeated n l → 1 ≤ n → 1 ≤ length l → 1 ≤ length copies
some_copies {A = A} n l copies is times some = subst (λ (m : List A). 1 ≤ length m) (sym is) (repeated_some n l times some)

-- ---- rows that come several times, as messages

-- and once more
pub messages_once_more : (n : ℕ) (rows : List (List ℕ)) → row_messages (repeated (n + 1) rows) ≡ row_messages (repeated n rows) ++ row_messages rows
messages_once_more n rows =
    let more : n + 1 ≡ suc n = omega arith in
    ap (λ (k : ℕ). row_messages (repeated k rows)) more ∙ ap row_messages (sym (repeated_more n rows)) ∙ map-append Row (repeated n rows) rows

-- some times, and the others
pub messages_from : (n times : ℕ) (rows : List (List ℕ)) → n ≤ times
    → row_messages (repeated times rows) ≡ row_messages (repeated n rows) ++ row_messages (repeated (times - n) rows)
messages_from n times rows within =
    let parts : times ≡ n + (times - n) = omega (arith, within) in
    ap (λ (k : ℕ). row_messages (repeated k rows)) parts ∙ ap row_messages (repeated_parts n (times - n) rows)
    ∙ map-append Row (repeated n rows) (repeated (times - n) rows)

-- ---- what holds of each element, each time

each_append : {A : Type 0} (P : A → Type 0) (a b : List A) → AllByRecursion P a → AllByRecursion P b → AllByRecursion P (a ++ b)
each_append P [] b first then = then
each_append P (x ∷ a) b first then = (first.0, each_append P a b first.1 then)

pub each_of_repeated : {A : Type 0} (P : A → Type 0) (n : ℕ) (l : List A) → AllByRecursion P l → AllByRecursion P (repeated n l)
each_of_repeated P zero l each = tt
each_of_repeated P (suc n) l each = each_append P l (repeated n l) each (each_of_repeated P n l each)

pub each_once : {A : Type 0} (P : A → Type 0) (n : ℕ) (l : List A) → 1 ≤ n → AllByRecursion P (repeated n l) → AllByRecursion P l
each_once P zero l times each = absurd (omega (arith, times))
each_once P (suc n) l times each = all_of_prefix P l (repeated n l) each
