-- Images and their rows, dealt to lanes.
use Rattle.pnm_tools.proofs.Words.{◌≡◌, ℕ, zero, suc, ◌+◌, ◌%◌, ◌≤◌, Bool, true, false, List, [], ◌∷◌, ◌++◌, length, map, refl, sym, ap, ◌∙◌, arith, ◌==◌}
use Rattle.pnm_tools.proofs.Words.{if◌then◌else◌, map-append, Shape, HeadValue, IsHead, Image, IsImage, rows_of, IsRowOf, AreRowsOf, IsImage-image_of}
use Rattle.pnm_tools.proofs.Words.{rows_of-image_of, length-rows_of, AreRowsOf-rows_of, dealt_height, dealt_row, dealt_rows, dealt_head, dealt_image}
use Rattle.std.proofs.Common.{length-append}

-- ---- how many rows

one_more_within : (b : Bool) (n y : ℕ) → n ≤ y → n + (if b then 1 else 0) ≤ suc y
one_more_within true n y le = omega arith
one_more_within false n y le = omega arith

-- a lane gets at most all rows
pub dealt_height_within : (lane lanes height : ℕ) → dealt_height lane lanes height ≤ height
dealt_height_within lane lanes zero = omega arith
dealt_height_within lane lanes (suc y) = one_more_within ((y % lanes) == lane) (dealt_height lane lanes y) y (dealt_height_within lane lanes y)

one_or_none : (b : Bool) (row : List ℕ) → length (if b then row ∷ [] else []) ≡ (if b then 1 else 0)
one_or_none true row = refl
one_or_none false row = refl

-- of rows from row y on a lane gets as many as its height grows by
pub length-dealt_rows : (lane lanes y : ℕ) (rows : List (List ℕ)) → dealt_height lane lanes (y + length rows) ≡ dealt_height lane lanes y + length
    (dealt_rows lane lanes y rows)
length-dealt_rows lane lanes y [] =
    let same : y + 0 ≡ y = omega arith in
    let height : dealt_height lane lanes (y + 0) ≡ dealt_height lane lanes y = ap (dealt_height lane lanes) same in
    omega (arith, height)
length-dealt_rows lane lanes y (row ∷ rows) =
    let here : List (List ℕ) = dealt_row lane lanes y row in
    let others : List (List ℕ) = dealt_rows lane lanes (y + 1) rows in
    let one : y + 1 ≡ suc y = omega arith in
    let moved : y + length (row ∷ rows) ≡ y + 1 + length rows = omega arith in
    let next : dealt_height lane lanes (y + 1) ≡ dealt_height lane lanes y + length here =
    ap (dealt_height lane lanes) one ∙ ap (λ (n : ℕ). dealt_height lane lanes y + n) (sym (one_or_none ((y % lanes) == lane) row)) in
    let first : dealt_height lane lanes (y + length (row ∷ rows)) ≡ dealt_height lane lanes (y + 1 + length rows) = ap (dealt_height lane lanes) moved in
    let rest : dealt_height lane lanes (y + 1 + length rows) ≡ dealt_height lane lanes (y + 1) + length others = length-dealt_rows lane lanes (y + 1) rows in
    let both : length (here ++ others) ≡ length here + length others = length-append here others in
    omega (arith, first, rest, next, both)

-- a lane gets of an image as many rows as its head says
pub length-dealt : (lane lanes : ℕ) (i : Image) → length (dealt_rows lane lanes 0 (rows_of i)) ≡ dealt_height lane lanes i.head.shape.height
length-dealt lane lanes i =
    let all : dealt_height lane lanes (0 + length (rows_of i)) ≡ 0 + length (dealt_rows lane lanes 0 (rows_of i)) =
    length-dealt_rows lane lanes 0 (rows_of i) in
    let same : dealt_height lane lanes (0 + length (rows_of i)) ≡ dealt_height lane lanes i.head.shape.height =
    let count : 0 + length (rows_of i) ≡ i.head.shape.height = omega (arith, length-rows_of i) in
    ap (dealt_height lane lanes) count in
    omega (arith, all, same)

-- ---- which rows

row_is_dealt : (s t : Shape) (b : Bool) (row : List ℕ) (rows : List (List ℕ)) → IsRowOf t row → AreRowsOf t rows
    → AreRowsOf t ((if b then row ∷ [] else []) ++ rows)
row_is_dealt s t true row rows is are = (is, are)
row_is_dealt s t false row rows is are = are

-- the rows that a lane gets are rows of the same shape, whatever the height
pub dealt_are_rows : (lane lanes height y : ℕ) (s : Shape) (rows : List (List ℕ)) → AreRowsOf s rows
    → AreRowsOf (record s { height = height }) (dealt_rows lane lanes y rows)
dealt_are_rows lane lanes height y s [] are = tt
dealt_are_rows lane lanes height y s (row ∷ rows) are =
    row_is_dealt s (record s { height = height }) ((y % lanes) == lane) row (dealt_rows lane lanes (y + 1) rows)
    (record { count = are.0.count; range = are.0.range }) (dealt_are_rows lane lanes height (y + 1) s rows are.1)

-- the head of what a lane gets is a head
pub dealt_head_is_head : (lane lanes : ℕ) (head : HeadValue) → IsHead head → IsHead (dealt_head lane lanes head)
dealt_head_is_head lane lanes head is =
    let limits = is.limits in
    record {
      limits = record {
        width_low = limits.width_low;
        width_high = limits.width_high;
        height_high = omega (arith, limits.height_high, dealt_height_within lane lanes head.shape.height);
        depth_low = limits.depth_low;
        depth_high = limits.depth_high;
        row_high = limits.row_high;
        maxval_low = limits.maxval_low;
        maxval_high = limits.maxval_high;
      };
      suits = is.suits;
    }

-- the rows of the image that a lane sees are those that it gets
pub rows_of-dealt_image : (lane lanes : ℕ) (i : Image) → IsImage i → rows_of (dealt_image lane lanes i) ≡ dealt_rows lane lanes 0 (rows_of i)
rows_of-dealt_image lane lanes i is =
    rows_of-image_of (dealt_head lane lanes i.head) (dealt_rows lane lanes 0 (rows_of i)) (length-dealt lane lanes i)
    (dealt_are_rows lane lanes (dealt_height lane lanes i.head.shape.height) 0 i.head.shape (rows_of i) (AreRowsOf-rows_of i is))

-- what a lane sees is an image
pub dealt_image_is_image : (lane lanes : ℕ) (i : Image) → IsImage i → IsImage (dealt_image lane lanes i)
dealt_image_is_image lane lanes i is =
    IsImage-image_of (dealt_head lane lanes i.head) (dealt_rows lane lanes 0 (rows_of i)) (dealt_head_is_head lane lanes i.head is.head)
    (length-dealt lane lanes i)
    (dealt_are_rows lane lanes (dealt_height lane lanes i.head.shape.height) 0 i.head.shape (rows_of i) (AreRowsOf-rows_of i is))

-- ---- rows that are changed one by one

row_changed : (f : List ℕ → List ℕ) (b : Bool) (row : List ℕ) → (if b then f row ∷ [] else []) ≡ map f (if b then row ∷ [] else [])
row_changed f true row = refl
row_changed f false row = refl

-- a lane gets the same of rows that are changed one by one as changes of what it gets
pub dealt_rows-map : (f : List ℕ → List ℕ) (lane lanes y : ℕ) (rows : List (List ℕ))
    → dealt_rows lane lanes y (map f rows) ≡ map f (dealt_rows lane lanes y rows)
dealt_rows-map f lane lanes y [] = refl
dealt_rows-map f lane lanes y (row ∷ rows) =
    ap (λ (l : List (List ℕ)). l ++ dealt_rows lane lanes (y + 1) (map f rows)) (row_changed f ((y % lanes) == lane) row)
    ∙ ap (λ (l : List (List ℕ)). map f (dealt_row lane lanes y row) ++ l) (dealt_rows-map f lane lanes (y + 1) rows)
    ∙ sym (map-append f (dealt_row lane lanes y row) (dealt_rows lane lanes (y + 1) rows))
