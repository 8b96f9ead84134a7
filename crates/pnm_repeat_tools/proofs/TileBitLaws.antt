-- Rows of packed pixels side by side.
use Rattle.pnm_repeat_tools.proofs.Words.{◌≡◌, ◌⊎◌, inl, inr, ℕ, zero, suc, ◌+◌, ◌-◌, ◌*◌, ◌%◌, ◌<◌, ◌≤◌, List, [], ◌∷◌, ◌++◌, length, get_or, map, take, drop}
use Rattle.pnm_repeat_tools.proofs.Words.{All, refl, sym, ap, ap₂, ◌∙◌, ◌/◌, arith, mul-le-mul_right, flat_map, range_with_len, div-add-mod, mod-lt, mod_self}
use Rattle.pnm_repeat_tools.proofs.Words.{drop_at, length-append, length-take, take-append-le, take_all, bytes_for, rows_of_bytes, row_bytes, all_pixels}
use Rattle.pnm_repeat_tools.proofs.Words.{ArePacked, length_of_row_bytes, row_within, row_of_rows, all_pixels-append, drop-all_pixels, length-all_pixels}
use Rattle.pnm_repeat_tools.proofs.Words.{take-all_pixels, length_of_packed, length_of_rows, rows_behind, pixel_of, tiled_row, range_alike, length_of_equals}
use Rattle.pnm_repeat_tools.proofs.Words.{map_in_parts, row_of_tiles, row_of_samples}
use Rattle.pnm_repeat_tools.proofs.TileRowLaws.{length_tiled, tiled_more, tiled_prefix, tiled_shorter}

-- ---- samples as columns of one plane

-- a row side by side is all of it
all_of_row : {X : Type 0} (width depth : ℕ) (row : List X) → length row ≡ width * depth → tiled_row width width depth row ≡ row
all_of_row width depth row long = tiled_prefix width width depth row (omega arith) ∙ take_all (width * depth) row (omega (arith, long))

columns_again : {X : Type 0} (k rest width depth : ℕ) (row : List X) → rest ≤ width → length row ≡ width * depth
    → tiled_row ((k * width + rest) * depth) (width * depth) 1 row ≡ tiled_row (k * width + rest) width depth row
columns_again {X = X} zero rest width depth row fewer long =
    let none : zero * width + rest ≡ rest = omega arith in
    let one : rest * depth * 1 ≡ rest * depth = omega arith in
    ap (λ (n : ℕ). tiled_row (n * depth) (width * depth) 1 row) none
    ∙ tiled_prefix (rest * depth) (width * depth) 1 row (mul-le-mul_right {m = rest} {n = width} depth fewer)
    ∙ ap (λ (n : ℕ). take n row) one ∙ sym (tiled_prefix rest width depth row fewer) ∙ ap (λ (n : ℕ). tiled_row n width depth row) (sym none)
columns_again {X = X} (suc k) rest width depth row fewer long =
    let m : ℕ = k * width + rest in
    let all : suc k * width + rest ≡ width + m = omega arith in
    let samples : (width + m) * depth ≡ width * depth + m * depth = omega arith in
    let one : length row ≡ width * depth * 1 = omega (arith, long) in
    ap (λ (n : ℕ). tiled_row (n * depth) (width * depth) 1 row) all ∙ ap (λ (n : ℕ). tiled_row n (width * depth) 1 row) samples
    ∙ tiled_more (width * depth) (m * depth) (width * depth) 1 row (mod_self (width * depth))
    ∙ ap₂ (λ (a b : List X). a ++ b) (all_of_row (width * depth) 1 row one ∙ sym (all_of_row width depth row long))
    (columns_again k rest width depth row fewer long)
    ∙ sym (tiled_more width m width depth row (mod_self width)) ∙ ap (λ (n : ℕ). tiled_row n width depth row) (sym all)

-- columns of several planes are as many columns of one
pub columns_of_samples : {X : Type 0} (across width depth : ℕ) (row : List X) → 0 < width → length row ≡ width * depth
    → tiled_row (across * depth) (width * depth) 1 row ≡ tiled_row across width depth row
columns_of_samples across width depth row some long =
    let whole : across / width * width + across % width ≡ across = omega (arith, div-add-mod across width) in
    let fewer : across % width < width = mod-lt across some in
    ap (λ (n : ℕ). tiled_row (n * depth) (width * depth) 1 row) (sym whole)
    ∙ columns_again (across / width) (across % width) width depth row (omega arith) long
    ∙ ap (λ (n : ℕ). tiled_row n width depth row) whole

-- so are rows of the result
pub rows_of_samples : (across width depth : ℕ) {filled each : ℕ} (y n : ℕ) (rows : List (List ℕ)) → 0 < length rows → 0 < width
    → All (λ row. length row ≡ width * depth) rows → filled ≡ across * depth → each ≡ width * depth → map (row_of_tiles filled each 1 rows)
    (range_with_len y n) ≡ map (row_of_tiles across width depth rows) (range_with_len y n)
rows_of_samples across width depth {filled} {each} y n rows there some long all whole =
    range_alike (row_of_tiles filled each 1 rows) (row_of_tiles across width depth rows) y n (λ x lt.
    let below : x % length rows < length rows = mod-lt x there in
    let row : List ℕ = get_or rows (x % length rows) [] in
    ap₂ (λ (a w : ℕ). tiled_row a w 1 row) all whole ∙ columns_of_samples across width depth row some (long (x % length rows) [] below))

-- ---- bytes side by side

pixels_of_pieces : (f g : ℕ → List ℕ) (a n : ℕ) → ((x : ℕ) → all_pixels (f x) ≡ g x)
    → all_pixels (flat_map f (range_with_len a n)) ≡ flat_map g (range_with_len a n)
pixels_of_pieces f g a zero alike = refl
pixels_of_pieces f g a (suc n) alike =
    all_pixels-append (f a) (flat_map f (range_with_len (a + 1) n))
    ∙ ap₂ (λ (x y : List ℕ). x ++ y) (alike a) (pixels_of_pieces f g (a + 1) n alike)

-- the pixels of them are those of a byte in each column
pixels_of_tiled : (across width : ℕ) (bytes : List ℕ) → all_pixels (tiled_row across width 1 bytes) ≡ tiled_row across width 8 (all_pixels bytes)
pixels_of_tiled across width bytes =
    pixels_of_pieces (λ x. pixel_of 1 bytes (x % width)) (λ x. pixel_of 8 (all_pixels bytes) (x % width)) 0 across (λ x.
    let at : ℕ = x % width in
    let place : 8 * (at * 1) ≡ at * 8 = omega arith in
    sym (take-all_pixels 1 (drop (at * 1) bytes))
    ∙ ap (take 8) (sym (drop-all_pixels (at * 1) bytes) ∙ ap (λ (k : ℕ). drop k (all_pixels bytes)) place))

-- where each copy begins at a byte
whole_bytes : (filled each : ℕ) (bytes : List ℕ) → 0 < each → each % 8 ≡ 0 → length bytes ≡ bytes_for each
    → take filled (all_pixels (tiled_row (bytes_for filled) (bytes_for each) 1 bytes)) ≡ tiled_row filled each 1 (take each (all_pixels bytes))
whole_bytes filled each bytes some whole size =
    let m : ℕ = bytes_for filled in
    let n : ℕ = bytes_for each in
    let p : List ℕ = all_pixels bytes in
    let long : length p ≡ n * 8 = omega (arith, length-all_pixels bytes, size) in
    let one : length p ≡ n * 8 * 1 = omega (arith, long) in
    let width : n * 8 ≡ each = omega (arith, whole) in
    let all : filled * 1 ≡ filled = omega arith in
    ap (take filled) (pixels_of_tiled m n bytes ∙ sym (columns_of_samples m n 8 p (omega (arith, some)) long))
    ∙ ap (λ (k : ℕ). take k (tiled_row (m * 8) (n * 8) 1 p)) (sym all)
    ∙ tiled_shorter (m * 8) filled (n * 8) 1 p (omega (arith, some)) one (omega arith)
    ∙ ap₂ (λ (w : ℕ) (l : List ℕ). tiled_row filled w 1 l) width (sym (take_all each p (omega (arith, long, width))))

-- where there is one copy
one_copy : {filled each : ℕ} (bytes : List ℕ) → filled ≡ each → length bytes ≡ bytes_for each
    → take filled (all_pixels (tiled_row (bytes_for filled) (bytes_for each) 1 bytes)) ≡ tiled_row filled each 1 (take each (all_pixels bytes))
one_copy {each} bytes same size =
    let p : List ℕ = all_pixels bytes in
    let one : length bytes ≡ bytes_for each * 1 = omega (arith, size) in
    let row : length (take each p) ≡ each * 1 = omega (arith, length-take each p, length-all_pixels bytes, size) in
    ap (λ (k : ℕ). take k (all_pixels (tiled_row (bytes_for k) (bytes_for each) 1 bytes))) same
    ∙ ap (λ (l : List ℕ). take each (all_pixels l)) (all_of_row (bytes_for each) 1 bytes one)
    ∙ sym (all_of_row each 1 (take each p) row) ∙ ap (λ (k : ℕ). tiled_row k each 1 (take each p)) (sym same)

row_of_bytes : (filled each : ℕ) (bytes : List ℕ) → 0 < each → (each % 8 ≡ 0) ⊎ (filled ≡ each) → length bytes ≡ bytes_for each
    → take filled (all_pixels (tiled_row (bytes_for filled) (bytes_for each) 1 bytes)) ≡ tiled_row filled each 1 (take each (all_pixels bytes))
row_of_bytes filled each bytes some (inl whole) size = whole_bytes filled each bytes some whole size
row_of_bytes filled each bytes some (inr same) size = one_copy bytes same size

-- rows by the bytes of each
rows_of_pieces : (each : ℕ) (f g : ℕ → List ℕ) (a n : ℕ) → ((x : ℕ) → length (f x) ≡ bytes_for each) → ((x : ℕ) → take each (all_pixels (f x)) ≡ g x)
    → rows_of_bytes n each (flat_map f (range_with_len a n)) ≡ map g (range_with_len a n)
rows_of_pieces each f g a zero size alike = refl
rows_of_pieces each f g a (suc n) size alike =
    let rest : List ℕ = flat_map f (range_with_len (a + 1) n) in
    let first : take each (all_pixels (f a ++ rest)) ≡ g a = ap (take each) (all_pixels-append (f a) rest)
    ∙ take-append-le each (all_pixels (f a)) (all_pixels rest) (omega (arith, length-all_pixels (f a), size a)) ∙ alike a in
    ap₂ (λ (r : List ℕ) (l : List (List ℕ)). r ∷ l) first
    (ap (rows_of_bytes n each) (drop_at (f a) rest (bytes_for each) (size a)) ∙ rows_of_pieces each f g (a + 1) n size alike)

-- rows whose bytes are tiled
module _ (each width kept held : ℕ) (bytes : List ℕ) (rows : List (List ℕ)) (there : 0 < length rows) (long : All (λ row. length row ≡ each) rows)
    (width_is : width ≡ bytes_for each) (are : rows ≡ rows_of_bytes kept held bytes) (enough : length bytes ≡ kept * bytes_for held) where
  many : length rows ≡ kept
  many = ap length are ∙ length_of_rows kept held bytes

  same : held ≡ each
  same = let first = row_of_rows kept held 0 bytes rows (sym are) enough there in sym first.1 ∙ long 0 [] there

  one : width * 1 ≡ bytes_for each
  one = omega (arith, width_is)

  all : length bytes ≡ kept * bytes_for each
  all = enough ∙ ap (λ (h : ℕ). kept * bytes_for h) same

  below : (x : ℕ) → x % kept < kept
  below x = mod-lt x (omega (arith, many, there))

  part : (i : ℕ) → pixel_of (width * 1) bytes i ≡ row_bytes (bytes_for each) i bytes
  part i = ap (λ (w : ℕ). take w (drop (i * w) bytes)) one

  part_long : (i : ℕ) → i < kept → length (row_bytes (bytes_for each) i bytes) ≡ bytes_for each
  part_long i lt = length_of_row_bytes (bytes_for each) i bytes (row_within kept (bytes_for each) i (length bytes) all lt)

  -- they have so many
  pub bytes_of_each : length bytes ≡ kept * (width * 1)
  bytes_of_each = all ∙ ap (λ (w : ℕ). kept * w) (sym one)

  -- so have those of the result
  long_piece : (size : ℕ) → 0 < width → (x : ℕ) → length (row_of_samples size width 1 kept bytes x) ≡ size * 1
  long_piece size some x =
      length_tiled size width 1 (pixel_of (width * 1) bytes (x % kept)) some (ap length (part (x % kept)) ∙ part_long (x % kept) (below x) ∙ sym one)

  pub length_of_tiled_bytes : (size y n : ℕ) (made : List ℕ) → 0 < width
      → made ≡ flat_map (row_of_samples size width 1 kept bytes) (range_with_len y n) → length made ≡ n * size
  length_of_tiled_bytes size y n made some is =
      let whole : size * 1 ≡ size = omega arith in
      ap length is ∙ length_of_equals (row_of_samples size width 1 kept bytes) (size * 1) y n (long_piece size some) ∙ ap (λ (k : ℕ). n * k) whole

  -- the rows that they make
  pub rows_of_tiled_bytes : (filled size y n : ℕ) (made : List ℕ) → 0 < each → (each % 8 ≡ 0) ⊎ (filled ≡ each) → size ≡ bytes_for filled
      → made ≡ flat_map (row_of_samples size width 1 kept bytes) (range_with_len y n)
      → rows_of_bytes n filled made ≡ map (row_of_tiles filled each 1 rows) (range_with_len y n)
  rows_of_tiled_bytes filled size y n made some whole size_is is =
      let rows_are : rows_of_bytes kept each bytes ≡ rows = sym (are ∙ ap (λ (h : ℕ). rows_of_bytes kept h bytes) same) in
      ap (rows_of_bytes n filled) is
      ∙ rows_of_pieces filled (row_of_samples size width 1 kept bytes) (row_of_tiles filled each 1 rows) y n
      (λ x. long_piece size (omega (arith, width_is, some)) x ∙ omega (arith, size_is))
      (λ x.
      let i : ℕ = x % kept in
      let row = row_of_rows kept each i bytes rows rows_are all (omega (arith, many, below x)) in
      ap₂ (λ (m w : ℕ). take filled (all_pixels (tiled_row m w 1 (pixel_of (width * 1) bytes i)))) size_is width_is
      ∙ ap (λ (l : List ℕ). take filled (all_pixels (tiled_row (bytes_for filled) (bytes_for each) 1 l))) (part i)
      ∙ row_of_bytes filled each (row_bytes (bytes_for each) i bytes) some whole (part_long i (below x))
      ∙ ap (tiled_row filled each 1) (row.2 ∙ ap (λ (k : ℕ). get_or rows (x % k) []) (sym many)))

-- ---- a row at a time

-- as many rows are kept as their bytes are
pub kept_are : (kept held : ℕ) (bytes : List ℕ) {rows : List (List ℕ)} → rows ≡ rows_of_bytes kept held bytes → length rows ≡ kept
kept_are kept held bytes are = ap length are ∙ length_of_rows kept held bytes

pub row_is_kept : (kept held x : ℕ) (bytes : List ℕ) {rows : List (List ℕ)} → 0 < length rows → rows ≡ rows_of_bytes kept held bytes → x % kept < length rows
row_is_kept kept held x bytes {rows} there are =
    let many : length rows ≡ kept = kept_are kept held bytes are in
    let some : 0 < kept = omega (arith, many, there) in
    omega (arith, many, mod-lt x some)

-- the pixels of a row
row_of_pixels : {each count : ℕ} {bytes row : List ℕ} → take count (all_pixels bytes) ≡ row → ArePacked count bytes → length row ≡ each
    → (each ≤ 8 * length bytes) × (take each (all_pixels bytes) ≡ row)
row_of_pixels {each} {count} {bytes} is packed long =
    let same : count ≡ each = sym (length_of_packed count bytes packed) ∙ ap length is ∙ long in (
      omega (arith, packed.enough, same),
      ap (λ (n : ℕ). take n (all_pixels bytes)) (sym same) ∙ is,
    )

-- the next row of the result, as it is packed
module _ (each kept held x count : ℕ) (bytes here : List ℕ) (rows : List (List ℕ)) (there : 0 < length rows)
    (long : All (λ row. length row ≡ each) rows) (are : rows ≡ rows_of_bytes kept held bytes)
    (pixels : take count (all_pixels here) ≡ get_or rows (x % kept) []) (packed : ArePacked count here) where
  row_long : length (get_or rows (x % kept) []) ≡ each
  row_long = long (x % kept) [] (row_is_kept kept held x bytes there are)

  pub row_has_pixels : each ≤ 8 * length here
  row_has_pixels = (row_of_pixels pixels packed row_long).0

  row_is : take each (all_pixels here) ≡ get_or rows (x % length rows) []
  row_is = (row_of_pixels pixels packed row_long).1
      ∙ ap (λ (k : ℕ). get_or rows (x % k) []) (sym (kept_are kept held bytes are))

  pub next_part : (filled : ℕ) (none value part : List ℕ) → 0 < each → none ≡ [] → value ≡ none ++ tiled_row filled each 1 (take each (all_pixels here))
      → length part ≡ (length value + 7) / 8 → value ≡ take (length value) (all_pixels part)
      → (length part ≡ bytes_for filled) × (take filled (all_pixels part) ≡ row_of_tiles filled each 1 rows x)
  next_part filled none value part some empty made size is =
      let tile : value ≡ row_of_tiles filled each 1 rows x = made ∙ ap₂ (λ (a b : List ℕ). a ++ tiled_row filled each 1 b) empty row_is in
      let row : length (get_or rows (x % length rows) []) ≡ each * 1 =
      ap length (sym row_is) ∙ omega (arith, length-take each (all_pixels here), length-all_pixels here, row_has_pixels) in
      let whole : length value ≡ filled = ap length tile ∙ length_tiled filled each 1 (get_or rows (x % length rows) []) some row ∙ omega arith in
      (omega (arith, size, whole), ap (λ (n : ℕ). take n (all_pixels part)) (sym whole) ∙ sym is ∙ tile)

-- a row more
pub pixel_row_more : (f : ℕ → List ℕ) (each y at : ℕ) (bytes part : List ℕ) {new : List ℕ} → y ≤ at → length bytes ≡ (at - y) * bytes_for each
    → rows_of_bytes (at - y) each bytes ≡ map f (range_with_len y (at - y)) → length part ≡ bytes_for each → take each (all_pixels part) ≡ f at
    → new ≡ bytes ++ part → (length new ≡ (at + 1 - y) * bytes_for each) × (rows_of_bytes (at + 1 - y) each new ≡ map f (range_with_len y (at + 1 - y)))
pixel_row_more f each y at bytes part {new} from size were part_size pixels is =
    let n : ℕ = at - y in
    let more : at + 1 - y ≡ n + 1 = omega (arith, from) in
    let place : y + n ≡ at = omega (arith, from) in
    let all : n * bytes_for each + bytes_for each ≡ (n + 1) * bytes_for each = omega arith in (
      ap length is ∙ length-append bytes part ∙ ap₂ (λ (a b : ℕ). a + b) size part_size ∙ all ∙ ap (λ (k : ℕ). k * bytes_for each) (sym more),
      ap (λ (k : ℕ). rows_of_bytes k each new) more ∙ ap (rows_of_bytes (n + 1) each) is ∙ rows_behind n 1 each bytes part size
          ∙ ap₂ (λ (a : List (List ℕ)) (r : List ℕ). a ++ r ∷ []) were pixels
          ∙ ap (λ (x : ℕ). map f (range_with_len y n) ++ f x ∷ []) (sym place)
          ∙ sym (map_in_parts f y n 1) ∙ ap (λ (k : ℕ). map f (range_with_len y k)) (sym more),
    )
