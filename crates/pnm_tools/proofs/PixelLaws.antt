-- The rows of images that are made of the pixels of another image.
use Rattle.pnm_tools.proofs.Words.{◌≡◌, ℕ, suc, ◌+◌, ◌*◌, ◌<◌, ◌≤◌, List, length, slice_index, take, drop, map, sym, ap, ◌∙◌, arith, add-mul, mul_assoc}
use Rattle.pnm_tools.proofs.Words.{mul-le-mul, suc-mul, [], ◌∷◌, get_or, flat_map, range_with_len, drop_more, length-drop, length-take-le, get_or-take}
use Rattle.pnm_tools.proofs.Words.{get_or-drop, map-id, fill_by_all, Shape, HeadValue, row_length, Image, IsImage, sample_at, rows_of, image_by, pixel_of}
use Rattle.pnm_tools.proofs.FormulaLaws.{columns, columns_at, row_at, rows_of-image_by, range_alike}
use Rattle.pnm_tools.proofs.RangeLaws.{pieces_alike}

-- a pixel among the rows of samples
pixel_is : (xs : List ℕ) (w h d x y : ℕ) → length xs ≡ h * (w * d) → x < w → y < h
    → pixel_of d (take (w * d) (drop (y * (w * d)) xs)) x ≡ map (λ p. slice_index xs ((y * w + x) * d + p)) (range_with_len 0 d)
pixel_is xs w h d x y size column row =
    let each : ℕ = w * d in
    let line : List ℕ = take each (drop (y * each) xs) in
    let in_row : suc x * d ≤ w * d = mul-le-mul {n₁ = suc x} {m₁ = d} {n₂ = w} {m₂ = d} (omega arith) (omega arith) in
    let in_all : suc y * each ≤ h * each = mul-le-mul {n₁ = suc y} {m₁ = each} {n₂ = h} {m₂ = each} (omega arith) (omega arith) in
    let long : length line ≡ each = length-take-le each (drop (y * each) xs) (omega (arith, length-drop (y * each) xs, size, in_all, suc-mul y each)) in
    let whole : length (pixel_of d line x) ≡ d = length-take-le d (drop (x * d) line) (omega (arith, length-drop (x * d) line, long, in_row, suc-mul x d)) in
    fill_by_all (λ p. slice_index xs ((y * w + x) * d + p)) (pixel_of d line x) d 0 whole (λ p lt.
    let at : (y * w + x) * d + p ≡ y * each + (x * d + p) = omega (arith, add-mul (y * w) x d, mul_assoc y w d) in
    get_or-take d (drop (x * d) line) p 0 lt
    ∙ get_or-drop (x * d) line p 0
    ∙ get_or-take each (drop (y * each) xs) (x * d + p) 0 (omega (arith, in_row, suc-mul x d))
    ∙ get_or-drop (y * each) xs (x * d + p) 0
    ∙ ap (slice_index xs) (sym at))

-- the pixel of a row of an image
pub pixel_at : (i : Image) (x y : ℕ) → IsImage i → x < i.head.shape.width → y < i.head.shape.height
    → map (λ p. sample_at i x y p) (range_with_len 0 i.head.shape.depth) ≡ pixel_of i.head.shape.depth (row_at i y) x
pixel_at i x y is column row = sym (pixel_is i.samples i.head.shape.width i.head.shape.height i.head.shape.depth x y is.count column row)

-- all pixels of a row are the row
pub whole_row : (i : Image) (y : ℕ) → IsImage i → y < i.head.shape.height → columns 0 i.head.shape.width i.head.shape.depth (λ x p. sample_at i x y p)
    ≡ row_at i y
whole_row i y is lt =
    let s : Shape = i.head.shape in
    let each : ℕ = row_length s in
    let at : (y * s.width + 0) * s.depth ≡ y * each = ap (λ (n : ℕ). n * s.depth) (omega arith) ∙ mul_assoc y s.width s.depth in
    let below : suc y * each ≤ s.height * each = mul-le-mul {n₁ = suc y} {m₁ = each} {n₂ = s.height} {m₂ = each} (omega arith) (omega arith) in
    columns_at (λ v. v) i.samples (y * s.width) 0 s.width s.depth (omega (arith, at, is.count, below, suc-mul y each))
    ∙ map-id (take each (drop ((y * s.width + 0) * s.depth) i.samples))
    ∙ ap (λ (n : ℕ). take each (drop n i.samples)) at

-- a head with other sizes
abbrev pub resized : ℕ → ℕ → HeadValue → HeadValue
resized width height head = record head { shape = record head.shape { width = width; height = height } }

-- the rows of an image whose columns and rows are those of another image, in whatever order
pub rows_by_pixels : (i : Image) (width height : ℕ) (column line : ℕ → ℕ) → IsImage i → ((x : ℕ) → x < width → column x < i.head.shape.width)
    → ((y : ℕ) → y < height → line y < i.head.shape.height)
    → rows_of (image_by (resized width height i.head) (λ x y p. sample_at i (column x) (line y) p))
    ≡ map (λ y. flat_map (λ x. pixel_of i.head.shape.depth (row_at i (line y)) (column x)) (range_with_len 0 width)) (range_with_len 0 height)
rows_by_pixels i width height column line is in_row in_image =
    let d : ℕ = i.head.shape.depth in
    rows_of-image_by (resized width height i.head) (λ x y p. sample_at i (column x) (line y) p)
    ∙ range_alike (λ y. columns 0 width d (λ x p. sample_at i (column x) (line y) p))
    (λ y. flat_map (λ x. pixel_of d (row_at i (line y)) (column x)) (range_with_len 0 width)) 0 height (λ y row.
    pieces_alike (λ x. map (λ p. sample_at i (column x) (line y) p) (range_with_len 0 d)) (λ x. pixel_of d (row_at i (line y)) (column x)) 0 width (λ x lt.
    pixel_at i (column x) (line y) is (in_row x (omega arith)) (in_image y (omega arith))))

-- the rows of an image whose rows are those of another image, in whatever order
pub rows_by_rows : (i : Image) (height : ℕ) (line : ℕ → ℕ) → IsImage i → ((y : ℕ) → y < height → line y < i.head.shape.height)
    → rows_of (image_by (resized i.head.shape.width height i.head) (λ x y p. sample_at i x (line y) p)) ≡ map (λ y. row_at i (line y)) (range_with_len 0 height)
rows_by_rows i height line is in_image =
    let s : Shape = i.head.shape in
    rows_of-image_by (resized s.width height i.head) (λ x y p. sample_at i x (line y) p)
    ∙ range_alike (λ y. columns 0 s.width s.depth (λ x p. sample_at i x (line y) p)) (λ y. row_at i (line y)) 0 height
    (λ y row. whole_row i (line y) is (in_image y (omega arith)))

-- ---- pixels of a few samples

-- a pixel of one sample
pub pixel_of_one : {X : Type 0} (row : List X) (i : ℕ) (v : X) → i < length row → v ≡ get_or row i v → pixel_of 1 row i ≡ v ∷ []
pixel_of_one {X = X} row i v lt is =
    let place : i * 1 ≡ i = omega arith in
    ap (λ (k : ℕ). take 1 (drop k row)) place ∙ ap (take 1) (drop_more row i v lt) ∙ ap (λ (x : X). x ∷ []) (sym is)

-- three samples that stand side by side
pub three_samples : {X : Type 0} (row : List X) (n : ℕ) (a b c : X) → n + 3 ≤ length row → a ≡ get_or row n a → b ≡ get_or row (n + 1) b
    → c ≡ get_or row (n + 2) c → a ∷ b ∷ c ∷ [] ≡ take 3 (drop n row)
three_samples {X = X} row n a b c fits first second third =
    let next : (n + 1) + 1 ≡ n + 2 = omega arith in
    sym (
    ap (take 3) (drop_more row n a (omega arith)) ∙ ap (λ (y : X). y ∷ take 2 (drop (n + 1) row)) (sym first)
    ∙ ap (λ (l : List X). a ∷ take 2 l) (drop_more row (n + 1) b (omega arith)) ∙ ap (λ (y : X). a ∷ y ∷ take 1 (drop ((n + 1) + 1) row)) (sym second)
    ∙ ap (λ (k : ℕ). a ∷ b ∷ take 1 (drop k row)) next
    ∙ ap (λ (l : List X). a ∷ b ∷ take 1 l) (drop_more row (n + 2) c (omega arith)) ∙ ap (λ (y : X). a ∷ b ∷ y ∷ []) (sym third)
    )

-- a pixel of three samples
pub color_of : {X : Type 0} (row color : List X) (n x : ℕ) → color ≡ take 3 (drop n row) → n ≡ 3 * x → color ≡ pixel_of 3 row x
color_of {X = X} row color n x is place = is ∙ ap (λ (k : ℕ). take 3 (drop k row)) (omega (arith, place))
