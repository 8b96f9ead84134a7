-- The bytes of samples: step by step, and part by part.
use Rattle.pnm_write.proofs.Words.{◌≡◌, ℕ, ◌+◌, ◌*◌, ◌/◌, ◌%◌, ◌<◌, ◌≤◌, min, List, [], ◌∷◌, ◌++◌, length, get_or, take, drop, refl, sym, ap, ap₂, ◌∙◌, arith}
use Rattle.pnm_write.proofs.Words.{inl, inr, put_mid, cases_lt, flat_map-append, append-nil, take_all, drop_all, take_more, take-append-drop, All-drop}
use Rattle.pnm_write.proofs.Words.{take-put_mid, SampleWidth, Bits, Bytes, Words, packed_bytes, wide_bytes, bytes_in, packed_parts, most_samples, FitIn}

-- ---- samples of two bytes

-- the bytes of one sample more
pub wide_more : (xs buffer : List ℕ) {pair : List ℕ} (i m : ℕ) → take (2 * i) buffer ≡ wide_bytes (take i xs) → i < length xs → 2 * length xs ≤ length buffer
    → pair ≡ get_or xs i 0 / 256 ∷ get_or xs i 0 % 256 ∷ [] → take (2 * (i + 1)) (put_mid (2 * i) m buffer pair) ≡ wide_bytes (take (i + 1) xs)
wide_more xs buffer {pair} i m known below enough is =
    let next : 2 * (i + 1) ≡ 2 * i + length pair = omega (arith, ap length is) in
    let sample : take (i + 1) xs ≡ take i xs ++ get_or xs i 0 ∷ [] = take_more xs i 0 below in
    let bytes : wide_bytes (take (i + 1) xs) ≡ wide_bytes (take i xs) ++ (get_or xs i 0 / 256 ∷ get_or xs i 0 % 256 ∷ []) =
    ap wide_bytes sample ∙ flat_map-append (λ (s : ℕ). s / 256 ∷ s % 256 ∷ []) (take i xs) (get_or xs i 0 ∷ []) in
    take-put_mid (2 * i) m buffer pair (2 * (i + 1)) next (omega arith) ∙ ap₂ (λ (a b : List ℕ). a ++ b) known is ∙ sym bytes

-- ---- parts of a row

-- all samples in one part
one_part : (p : SampleWidth) (n : ℕ) (xs : List ℕ) → length xs ≤ n → bytes_in p xs ≡ bytes_in p (take n xs) ++ bytes_in p (drop n xs)
one_part p n xs all =
    let none : bytes_in p [] ≡ [] = elim p as (λ q. bytes_in q [] ≡ []) [ Bits ↦ refl | Bytes ↦ refl | Words ↦ refl ] in
    sym (append-nil (bytes_in p xs)) ∙ ap₂ (λ (a b : List ℕ). a ++ b) (ap (bytes_in p) (sym (take_all n xs all)))
    (sym none ∙ ap (bytes_in p) (sym (drop_all n xs all)))

-- the bytes of a part, and those of the rest
pub parts : (p : SampleWidth) (n : ℕ) (xs : List ℕ) → n ≡ min (length xs) (most_samples p) → bytes_in p xs ≡ bytes_in p (take n xs) ++ bytes_in p (drop n xs)
parts Bits n xs e = elim (cases_lt (length xs) 32768) [
  | inl few ↦ one_part Bits n xs (omega arith)
  | inr many ↦
      let most : 8 * 4096 ≡ n = omega arith in
      packed_parts 4096 xs (omega arith) ∙ ap (λ (m : ℕ). packed_bytes (take m xs) ++ packed_bytes (drop m xs)) most
]
parts Bytes n xs e = sym (take-append-drop n xs)
parts Words n xs e = ap wide_bytes (sym (take-append-drop n xs)) ∙ flat_map-append (λ (s : ℕ). s / 256 ∷ s % 256 ∷ []) (take n xs) (drop n xs)

-- the samples of the rest fit their bytes too
pub fit_rest : (p : SampleWidth) (n : ℕ) (xs : List ℕ) → FitIn p xs → FitIn p (drop n xs)
fit_rest Bits n xs fit = tt
fit_rest Bytes n xs fit = All-drop (λ sample. sample ≤ 255) n xs fit
fit_rest Words n xs fit = tt

-- the bytes of a part of fewer samples, and those of the rest
pub few_parts : (p : SampleWidth) (n : ℕ) (xs : List ℕ) → n ≡ min (length xs) 2048 → bytes_in p xs ≡ bytes_in p (take n xs) ++ bytes_in p (drop n xs)
few_parts Bits n xs e = elim (cases_lt (length xs) 2048) [
  | inl few ↦ one_part Bits n xs (omega arith)
  | inr many ↦
      let most : 8 * 256 ≡ n = omega arith in
      packed_parts 256 xs (omega arith) ∙ ap (λ (m : ℕ). packed_bytes (take m xs) ++ packed_bytes (drop m xs)) most
]
few_parts Bytes n xs e = sym (take-append-drop n xs)
few_parts Words n xs e = ap wide_bytes (sym (take-append-drop n xs)) ∙ flat_map-append (λ (s : ℕ). s / 256 ∷ s % 256 ∷ []) (take n xs) (drop n xs)
