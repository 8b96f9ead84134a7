-- A row of pixels of one sample, each repeated.
use Rattle.pnm_repeat_tools.proofs.Words.{◌≡◌, ℕ, zero, suc, ◌+◌, ◌*◌, ◌≤◌, ◌<◌, List, [], ◌∷◌, ◌++◌, length, take, drop, get_or, replicate, refl, sym, ap, ◌∙◌}
use Rattle.pnm_repeat_tools.proofs.Words.{arith, flat_map, range_with_len, take_all, take_more, drop_more, flat_map_more, replicate_more, Shape, row_length}
use Rattle.pnm_repeat_tools.proofs.Words.{enlarged_row, copies_of, pixel_of, flat_map_one_more}

-- a list of one, so many times
same_repeated : (n v : ℕ) → replicate n v ≡ copies_of n (v ∷ [])
same_repeated zero v = refl
same_repeated (suc n) v =
    let more : suc n ≡ n + 1 = omega arith in
    ap (λ (k : ℕ). replicate k v) more ∙ sym (replicate_more n v) ∙ ap (λ (l : List ℕ). l ++ v ∷ []) (same_repeated n v)
    ∙ sym (flat_map_one_more (λ _. v ∷ []) 0 n n (omega arith)) ∙ ap (λ (k : ℕ). copies_of k (v ∷ [])) (sym more)

-- the first samples, where each is a pixel
samples_repeated : (across : ℕ) (row : List ℕ) (n : ℕ) → n ≤ length row
    → flat_map (replicate across) (take n row) ≡ flat_map (λ x. copies_of across (pixel_of 1 row x)) (range_with_len 0 n)
samples_repeated across row zero le = refl
samples_repeated across row (suc n) le =
    let f : ℕ → List ℕ = λ x. copies_of across (pixel_of 1 row x) in
    let v : ℕ = get_or row n 0 in
    let more : suc n ≡ n + 1 = omega arith in
    let here : n < length row = omega arith in
    let place : n ≡ n * 1 = omega arith in
    let pixel : v ∷ [] ≡ pixel_of 1 row n = ap (take 1) (sym (drop_more row n 0 here)) ∙ ap (λ (k : ℕ). take 1 (drop k row)) place in
    ap (λ (k : ℕ). flat_map (replicate across) (take k row)) more ∙ ap (flat_map (replicate across)) (take_more row n 0 here)
    ∙ sym (flat_map_more (replicate across) [] (take n row) v)
    ∙ ap (λ (l : List ℕ). l ++ replicate across v) (samples_repeated across row n (omega arith))
    ∙ ap (λ (l : List ℕ). flat_map f (range_with_len 0 n) ++ l) (same_repeated across v ∙ ap (copies_of across) pixel)
    ∙ sym (flat_map_one_more f 0 n n (omega arith)) ∙ ap (λ (k : ℕ). flat_map f (range_with_len 0 k)) (sym more)

-- a row of pixels of one sample
pub one_plane_repeated : (across : ℕ) (s : Shape) (row : List ℕ) {made : List ℕ} → s.depth ≡ 1 → length row ≡ row_length s
    → made ≡ flat_map (replicate across) row → made ≡ enlarged_row across s row
one_plane_repeated across s row one count is =
    let long : length row ≡ s.width = count ∙ ap (λ (k : ℕ). s.width * k) one ∙ omega arith in
    is ∙ ap (flat_map (replicate across)) (sym (take_all s.width row (omega arith))) ∙ samples_repeated across row s.width (omega arith)
    ∙ ap (λ (k : ℕ). flat_map (λ x. copies_of across (pixel_of k row x)) (range_with_len 0 s.width)) (sym one)
