-- Pixels as bytes, group by group.
use Rattle.pnm_samples.proofs.Words.{◌≡◌, ℕ, zero, suc, ◌+◌, ◌-◌, ◌*◌, ◌/◌, ◌<◌, ◌≤◌, List, [], ◌∷◌, ◌++◌, length, get_or, set, take, drop, replicate, refl}
use Rattle.pnm_samples.proofs.Words.{sym, ap, ap₂, ◌∙◌, arith, length-map, take_all, take_more_set, take-take, drop-take, drop-drop, length-take, length-drop}
use Rattle.pnm_samples.proofs.Words.{cut_rows, packed_byte, packed_bytes}
use Rattle.pnm_samples.proofs.CutLaws.{length-cut_rows}
use Rattle.pnm_samples.proofs.PackedBytes.{packed_groups, bits_before_white}

-- ---- eight pixels

eight_bits : (a b c d e f g h : ℕ) → 128 * a + (64 * b + (32 * c + (16 * d + (8 * e + (4 * f + (2 * g + (1 * h + 0))))))) ≡ 128 * a + 64 * b + 32 * c + 16 * d
    + 8 * e + 4 * f + 2 * g + h
eight_bits a b c d e f g h = omega arith

-- the byte of eight pixels
pub byte_of_eight : (p : List ℕ) → length p ≡ 8
    → packed_byte p ≡ 128 * (1 - get_or p 0 0) + 64 * (1 - get_or p 1 0) + 32 * (1 - get_or p 2 0) + 16 * (1 - get_or p 3 0) + 8 * (1 - get_or p 4 0)
    + 4 * (1 - get_or p 5 0) + 2 * (1 - get_or p 6 0) + (1 - get_or p 7 0)
byte_of_eight [] e = absurd (omega arith)
byte_of_eight (a ∷ []) e = absurd (omega arith)
byte_of_eight (a ∷ b ∷ []) e = absurd (omega arith)
byte_of_eight (a ∷ b ∷ c ∷ []) e = absurd (omega arith)
byte_of_eight (a ∷ b ∷ c ∷ d ∷ []) e = absurd (omega arith)
byte_of_eight (a ∷ b ∷ c ∷ d ∷ f ∷ []) e = absurd (omega arith)
byte_of_eight (a ∷ b ∷ c ∷ d ∷ f ∷ g ∷ []) e = absurd (omega arith)
byte_of_eight (a ∷ b ∷ c ∷ d ∷ f ∷ g ∷ h ∷ []) e = absurd (omega arith)
byte_of_eight (a ∷ b ∷ c ∷ d ∷ f ∷ g ∷ h ∷ i ∷ []) e = eight_bits (1 - a) (1 - b) (1 - c) (1 - d) (1 - f) (1 - g) (1 - h) (1 - i)
byte_of_eight (a ∷ b ∷ c ∷ d ∷ f ∷ g ∷ h ∷ i ∷ j ∷ p) e = absurd (omega arith)

-- ---- groups of pixels

-- the groups of a prefix, and those of the rest
groups_split : (k c n : ℕ) (xs : List ℕ) → n ≡ k + c → packed_groups n xs ≡ packed_groups k xs ++ packed_groups c (drop (8 * k) xs)
groups_split zero c n xs e =
    let same : n ≡ c = omega arith in
    ap (λ (m : ℕ). packed_groups m xs) same
groups_split (suc k) c zero xs e = absurd (omega arith)
groups_split (suc k) c (suc n) xs e =
    let less : n ≡ k + c = omega arith in
    let later : 8 + 8 * k ≡ 8 * suc k = omega arith in
    let rest : drop (8 * k) (drop 8 xs) ≡ drop (8 * suc k) xs = drop-drop (8 * k) 8 xs ∙ ap (λ (m : ℕ). drop m xs) later in
    ap (λ (l : List ℕ). packed_byte (take 8 xs) ∷ l) (groups_split k c n (drop 8 xs) less
    ∙ ap (λ (l : List ℕ). packed_groups k (drop 8 xs) ++ packed_groups c l) rest)

-- one group more
groups_more : (i : ℕ) (xs : List ℕ) → packed_groups (i + 1) xs ≡ packed_groups i xs ++ packed_byte (take 8 (drop (8 * i) xs)) ∷ []
groups_more i xs = groups_split i 1 (i + 1) xs refl

-- a prefix of whole groups
groups_of_prefix : (k : ℕ) (xs : List ℕ) → packed_groups k (take (8 * k) xs) ≡ packed_groups k xs
groups_of_prefix zero xs = refl
groups_of_prefix (suc k) xs =
    let more : 8 * suc k ≡ 8 + 8 * k = omega arith in
    let enough : 8 ≤ 8 * suc k = omega arith in
    let first : take 8 (take (8 * suc k) xs) ≡ take 8 xs = take-take 8 (8 * suc k) xs enough in
    let rest : drop 8 (take (8 * suc k) xs) ≡ take (8 * k) (drop 8 xs) = ap (λ (m : ℕ). drop 8 (take m xs)) more ∙ drop-take 8 (8 * k) xs in
    ap₂ (λ (p l : List ℕ). packed_byte p ∷ packed_groups k l) first rest
    ∙ ap (λ (l : List ℕ). packed_byte (take 8 xs) ∷ l) (groups_of_prefix k (drop 8 xs))

-- a prefix of whole groups, and the rest
pub packed_parts : (k : ℕ) (xs : List ℕ) → 8 * k ≤ length xs → packed_bytes xs ≡ packed_bytes (take (8 * k) xs) ++ packed_bytes (drop (8 * k) xs)
packed_parts k xs enough =
    let prefix : length (take (8 * k) xs) ≡ 8 * k = omega (arith, length-take (8 * k) xs) in
    let rest : length (drop (8 * k) xs) + 8 * k ≡ length xs = omega (arith, length-drop (8 * k) xs) in
    let count : (length (take (8 * k) xs) + 7) / 8 ≡ k = omega arith in
    let counts : (length xs + 7) / 8 ≡ k + (length (drop (8 * k) xs) + 7) / 8 = omega arith in
    groups_split k ((length (drop (8 * k) xs) + 7) / 8) ((length xs + 7) / 8) xs counts
    ∙ ap (λ (l : List ℕ). l ++ packed_bytes (drop (8 * k) xs)) (sym (groups_of_prefix k xs) ∙ ap (λ (m : ℕ). packed_groups m (take (8 * k) xs)) (sym count))

-- whole groups, and a last group with white pixels in place of those that are missing
groups_and_last : {k : ℕ} (n : ℕ) (xs : List ℕ) {rest last : List ℕ} → k ≡ length xs / 8 → rest ≡ drop (8 * k) xs → 0 < length rest
    → last ≡ rest ++ replicate n 1 → packed_bytes xs ≡ packed_groups k xs ++ packed_byte last ∷ []
groups_and_last {k} n xs {rest} {last} e after some filled =
    let left : length rest + 8 * k ≡ length xs = omega (arith, ap length after, length-drop (8 * k) xs) in
    let count : (length xs + 7) / 8 ≡ k + 1 = omega arith in
    let short : length rest ≤ 8 = omega arith in
    let pixels : packed_byte (take 8 (drop (8 * k) xs)) ≡ packed_byte last =
    ap (λ (l : List ℕ). packed_byte (take 8 l)) (sym after) ∙ ap packed_byte (take_all 8 rest short) ∙ sym (bits_before_white 128 n rest)
    ∙ ap packed_byte (sym filled) in
    ap (λ (m : ℕ). packed_groups m xs) count ∙ groups_more k xs ∙ ap (λ (b : ℕ). packed_groups k xs ++ b ∷ []) pixels

-- the byte of one group more was stored
pub groups_step : (i count : ℕ) {byte : ℕ} (xs buffer : List ℕ) → take i buffer ≡ packed_groups i xs → i < length buffer → count ≡ 8
    → byte ≡ packed_byte (take count (drop (8 * i) xs)) → take (i + 1) (set buffer i byte) ≡ packed_groups (i + 1) xs
groups_step i count {byte} xs buffer known below eight e =
    take_more_set buffer i byte below ∙ ap₂ (λ (l : List ℕ) (b : ℕ). l ++ b ∷ []) known (e ∙ ap (λ (m : ℕ). packed_byte (take m (drop (8 * i) xs))) eight)
    ∙ sym (groups_more i xs)

-- the byte of a last group was stored after the whole groups
pub last_step : {i k : ℕ} (n : ℕ) {byte : ℕ} (xs buffer : List ℕ) {rest last : List ℕ} → i ≡ k → take i buffer ≡ packed_groups i xs → k < length buffer
    → k ≡ length xs / 8 → rest ≡ drop (8 * k) xs → 0 < length rest → last ≡ rest ++ replicate n 1 → byte ≡ packed_byte last → take (k + 1)
    (set buffer k byte) ≡ packed_bytes xs
last_step {k} n {byte} xs buffer same known below e after some filled b =
    take_more_set buffer k byte below
    ∙ ap₂ (λ (l : List ℕ) (v : ℕ). l ++ v ∷ []) (ap (λ (m : ℕ). take m buffer) (sym same) ∙ known ∙ ap (λ (m : ℕ). packed_groups m xs) same) b
    ∙ sym (groups_and_last n xs e after some filled)

pub length-packed_bytes : (pixels : List ℕ) → length (packed_bytes pixels) ≡ (length pixels + 7) / 8
length-packed_bytes pixels = length-map (cut_rows ((length pixels + 7) / 8) 8 pixels) packed_byte ∙ length-cut_rows ((length pixels + 7) / 8) 8 pixels
