-- Rows of samples that are held one after another.
use Rattle.pnm_transpose.proofs.Words.{◌≡◌, ℕ, zero, suc, ◌+◌, ◌-◌, ◌*◌, ◌<◌, ◌≤◌, List, [], ◌∷◌, ◌++◌, length, get_or, take, drop, refl, sym, ap, ◌∙◌, arith}
use Rattle.pnm_transpose.proofs.Words.{suc-mul, zero-mul, mul-le-mul, Bool, true, false, if◌then◌else◌, drop-append-le, drop-drop, length-append, length-drop}
use Rattle.pnm_transpose.proofs.Words.{length-reverse, get_or-reverse, nil_from_length, take-append-le, cut_rows, rows_in, ordered_rows_in}

pub length_of_rows : {X : Type 0} (n each : ℕ) (samples : List X) → length (rows_in n each samples) ≡ n
length_of_rows zero each samples = refl
length_of_rows (suc n) each samples = ap suc (length_of_rows n each (drop each samples))

pub length_of_ordered : {X : Type 0} (b : Bool) (n each : ℕ) (samples : List X) → length (ordered_rows_in b n each samples) ≡ n
length_of_ordered true n each samples = length-reverse (rows_in n each samples) ∙ length_of_rows n each samples
length_of_ordered false n each samples = length_of_rows n each samples

-- rows behind others
rows_behind : {X : Type 0} (n more each : ℕ) (samples rest : List X) → length samples ≡ n * each
    → rows_in (n + more) each (samples ++ rest) ≡ rows_in n each samples ++ rows_in more each rest
rows_behind {X = X} zero more each samples rest long =
    let none : length samples ≡ 0 = omega (arith, long, zero-mul each) in
    let same : 0 + more ≡ more = omega arith in
    ap (λ (l : List X). rows_in (0 + more) each (l ++ rest)) (nil_from_length samples none) ∙ ap (λ (k : ℕ). rows_in k each rest) same
rows_behind {X = X} (suc n) more each samples rest long =
    let size : suc n * each ≡ each + n * each = omega (arith, suc-mul n each) in
    let count : suc n + more ≡ suc (n + more) = omega arith in
    let first : take each (samples ++ rest) ≡ take each samples = take-append-le each samples rest (omega (arith, long, size)) in
    let behind : drop each (samples ++ rest) ≡ drop each samples ++ rest = drop-append-le each samples rest (omega (arith, long, size)) in
    let left : length (drop each samples) ≡ n * each = omega (arith, length-drop each samples, long, size) in
    ap (λ (k : ℕ). rows_in k each (samples ++ rest)) count
    ∙ ap (λ (l : List X). l ∷ rows_in (n + more) each (drop each (samples ++ rest))) first
    ∙ ap (λ (l : List X). take each samples ∷ rows_in (n + more) each l) behind
    ∙ ap (λ (l : List (List X)). take each samples ∷ l) (rows_behind n more each (drop each samples) rest left)

-- rows that were added to others, which are of the same length where there are some
rows_added : {X : Type 0} (n held more each : ℕ) (samples rest : List X) {new : List X} → length samples ≡ n * held → (0 < n → held ≡ each)
    → new ≡ samples ++ rest → rows_in (n + more) each new ≡ rows_in n held samples ++ rows_in more each rest
rows_added {X = X} zero held more each samples rest long same is =
    let none : length samples ≡ 0 = omega (arith, long, zero-mul held) in
    let count : 0 + more ≡ more = omega arith in
    ap (rows_in (0 + more) each) (is ∙ ap (λ (l : List X). l ++ rest) (nil_from_length samples none)) ∙ ap (λ (k : ℕ). rows_in k each rest) count
rows_added {X = X} (suc n) held more each samples rest long same is =
    let lengths : held ≡ each = same (omega arith) in
    ap (rows_in (suc n + more) each) is ∙ rows_behind (suc n) more each samples rest (long ∙ ap (λ (k : ℕ). suc n * k) lengths)
    ∙ ap (λ (k : ℕ). rows_in (suc n) k samples ++ rows_in more each rest) (sym lengths)

pub rows_pushed : {X : Type 0} {b : Bool} (n held more each : ℕ) (samples rest : List X) {new : List X} {old : List (List X)} → b ≡ false
    → ordered_rows_in b n held samples ≡ old → length samples ≡ n * held → (0 < n → held ≡ each) → new ≡ samples ++ rest
    → ordered_rows_in b (n + more) each new ≡ old ++ rows_in more each rest
rows_pushed {X = X} n held more each samples rest {new} order is long same added =
    ap (λ (c : Bool). ordered_rows_in c (n + more) each new) order ∙ rows_added n held more each samples rest long same added
    ∙ ap (λ (l : List (List X)). l ++ rows_in more each rest) (sym (ap (λ (c : Bool). ordered_rows_in c n held samples) order) ∙ is)

-- how many samples they are then
pub samples_added : {X : Type 0} (n held more each : ℕ) (samples rest : List X) {new : List X} → length samples ≡ n * held → (0 < n → held ≡ each)
    → new ≡ samples ++ rest → length rest ≡ more * each → length new ≡ (n + more) * each
samples_added {X = X} zero held more each samples rest long same is size = omega (arith, ap length is, length-append samples rest, long, zero-mul held, size)
samples_added {X = X} (suc n) held more each samples rest long same is size =
    let all : length samples ≡ suc n * each = long ∙ ap (λ (k : ℕ). suc n * k) (same (omega arith)) in
    omega (arith, ap length is, length-append samples rest, all, size)

-- where a row lies
row_lies : {X : Type 0} (n each r : ℕ) (samples : List X) → r < n → get_or (rows_in n each samples) r [] ≡ take each (drop (r * each) samples)
row_lies zero each r samples lt = absurd (omega arith)
row_lies {X = X} (suc n) each zero samples lt =
    let none : 0 * each ≡ 0 = omega (arith, zero-mul each) in
    sym (ap (λ (k : ℕ). take each (drop k samples)) none)
row_lies {X = X} (suc n) each (suc r) samples lt =
    let place : suc r * each ≡ each + r * each = omega (arith, suc-mul r each) in
    row_lies n each r (drop each samples) (omega arith)
    ∙ ap (take each) (drop-drop (r * each) each samples ∙ ap (λ (k : ℕ). drop k samples) (sym place))

-- the number of a row where they lie
abbrev pub place_of : Bool → ℕ → ℕ → ℕ
place_of b n r = if b then n - 1 - r else r

pub ordered_lies : {X : Type 0} (b : Bool) (n each r : ℕ) (samples : List X) → r < n
    → get_or (ordered_rows_in b n each samples) r [] ≡ take each (drop (place_of b n r * each) samples)
ordered_lies {X = X} true n each r samples lt =
    let many : length (rows_in n each samples) ≡ n = length_of_rows n each samples in
    get_or-reverse (rows_in n each samples) r [] (omega (arith, many))
    ∙ ap (λ (k : ℕ). get_or (rows_in n each samples) (k - 1 - r) []) many ∙ row_lies n each (n - 1 - r) samples (omega arith)
ordered_lies false n each r samples lt = row_lies n each r samples lt

-- a row's place has all its samples
pub place_within : (b : Bool) (n each r : ℕ) {size : ℕ} → size ≡ n * each → r < n → place_of b n r * each + each ≤ size
place_within b n each r is lt =
    let below : place_of b n r < n = place_below b in
    let within : (place_of b n r + 1) * each ≤ n * each = mul-le-mul {n₁ = place_of b n r + 1} {m₁ = each} {n₂ = n} {m₂ = each} (omega arith) (omega arith) in
    omega (arith, is, within)
  where
    place_below : (b : Bool) → place_of b n r < n
    place_below true = omega arith
    place_below false = lt

-- rows that are cut
pub rows_are_cut : (n each : ℕ) (samples : List ℕ) → rows_in n each samples ≡ cut_rows n each samples
rows_are_cut zero each samples = refl
rows_are_cut (suc n) each samples = ap (λ (l : List (List ℕ)). take each samples ∷ l) (rows_are_cut n each (drop each samples))

-- ---- a row of those that are held

-- a row lies within the samples
pub row_room : {X : Type 0} (b : Bool) (n each r : ℕ) {place : ℕ} (samples : List X) {rows : List (List X)} → ordered_rows_in b n each samples ≡ rows
    → length samples ≡ n * each → r < length rows → place ≡ place_of b n r → place * each + each ≤ length samples
row_room b n each r samples is size lt at =
    let below : r < n = omega (arith, length_of_ordered b n each samples, ap length is) in
    omega (arith, place_within b n each r size below, ap (λ (p : ℕ). p * each) at)

pub row_is : {X : Type 0} (b : Bool) (n each r : ℕ) {place : ℕ} {samples lent : List X} {rows : List (List X)} → ordered_rows_in b n each samples ≡ rows
    → r < length rows → place ≡ place_of b n r → lent ≡ samples → take ((place * each + each) - place * each) (drop (place * each) lent) ≡ get_or rows r []
row_is {X = X} b n each r {place} {samples} {lent} is lt at same =
    let below : r < n = omega (arith, length_of_ordered b n each samples, ap length is) in
    let size : (place * each + each) - place * each ≡ each = omega arith in
    ap (λ (k : ℕ). take k (drop (place * each) lent)) size ∙ ap (λ (l : List X). take each (drop (place * each) l)) same
    ∙ ap (λ (p : ℕ). take each (drop (p * each) samples)) at ∙ sym (ordered_lies b n each r samples below)
    ∙ ap (λ (l : List (List X)). get_or l r []) is
