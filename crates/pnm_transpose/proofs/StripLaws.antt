-- Rows that are kept in strips, and those that came after them.
use Rattle.pnm_transpose.proofs.Words.{◌≡◌, ℕ, zero, suc, ◌+◌, ◌-◌, ◌*◌, ◌<◌, ◌≤◌, List, [], ◌∷◌, ◌++◌, length, take, drop, reverse, map, All, Vec, Global}
use Rattle.pnm_transpose.proofs.Words.{Bool, true, false, if◌then◌else◌, refl, sym, ap, subst, ◌∙◌, arith, mul-le-mul, zero-mul, suc-mul, flat_map}
use Rattle.pnm_transpose.proofs.Words.{range_with_len, flat_map-append, length-append, length-reverse, reverse-append, take_all, take_at, drop_at, All-nil}
use Rattle.pnm_transpose.proofs.Words.{All-head, All-tail, All-weaker, All-append, All-cons, STRIP_ROWS, AreAsLong, AreBlank, HavePixels, column_samples}
use Rattle.pnm_transpose.proofs.Words.{column_of, in_order, pixel_of, HaveSizes, coming_column, kept_column, kept_count, KeepColumns, ReachColumns}
use Rattle.pnm_transpose.proofs.Words.{flat_map_one_more, alike_from, pieces_in_parts}
use Rattle.std.proofs.Common.{append-nil, append_assoc}
use Rattle.pnm_transpose.proofs.ColumnLaws.{columns_filled, length_of_column, pixels_behind, reach}

-- ---- columns that are stored

-- two lists in either order
pub length_in_order : {X : Type 0} (b : Bool) (l m : List X) (n k : ℕ) → length l ≡ n → length m ≡ k → length (if b then l ++ m else m ++ l) ≡ n + k
length_in_order true l m n k some more = omega (arith, length-append l m)
length_in_order false l m n k some more = omega (arith, length-append m l)

-- the samples of a column
pub length_kept : {X : Type 0} (b : Bool) (columns depth x : ℕ) (strips rows : List (List X)) → x < columns → ReachColumns columns depth strips rows
    → length (kept_column b depth strips rows x) ≡ kept_count strips rows * depth
length_kept {X = X} b columns depth x strips rows below far =
    let within : (x + 1) * depth ≤ columns * depth = mul-le-mul {n₁ = x + 1} {m₁ = depth} {n₂ = columns} {m₂ = depth} (omega arith) (omega arith) in
    let part : ℕ = STRIP_ROWS * depth in
    let parts : (x + 1) * part ≤ columns * part = mul-le-mul {n₁ = x + 1} {m₁ = part} {n₂ = columns} {m₂ = part} (omega arith) (omega arith) in
    let some : length (column_of depth rows x) ≡ length rows * depth =
    length_of_column depth rows x (All-weaker (λ (row : List X). columns * depth ≤ length row) (λ (row : List X). (x + 1) * depth ≤ length row)
    (λ row le. omega (arith, within)) rows far.each_row) in
    let more : length (column_of part strips x) ≡ length strips * part =
    length_of_column part strips x (All-weaker (λ (row : List X). columns * part ≤ length row) (λ (row : List X). (x + 1) * part ≤ length row)
    (λ row le. omega (arith, parts)) strips far.each_strip) in
    let sum : length rows * depth + length strips * part ≡ kept_count strips rows * depth = omega arith in
    length_in_order b (column_of depth rows x) (column_of part strips x) (length rows * depth) (length strips * part) some more ∙ sum

-- the rows that came last, and the strips behind them, or the strips and the rows behind them
pub kept_stored : {X : Type 0} (b : Bool) (first depth m : ℕ) (strips rows : List (List X)) (f g : ℕ → List X) (old columns new : List (Vec X Global))
    → ReachColumns (first + length old) depth strips rows
    → ((x : ℕ) → f x ++ g x ≡ kept_column b depth strips rows x) → ((k : ℕ) → k < length old → length (f (first + k)) ≡ m)
    → HavePixels (length old) 0 (λ k. f (first + k)) old columns → HavePixels (length columns) m (λ k. g (first + k)) columns new
    → HavePixels (length old) 0 (λ k. kept_column b depth strips rows (first + k)) old new
kept_stored {X = X} b first depth m strips rows f g old columns new far parts size before behind =
    let at : m ≡ 0 + m = omega arith in
    pixels_behind (length old) 0 m (λ k. f (first + k)) (λ k. g (first + k)) (λ k. kept_column b depth strips rows (first + k)) old columns new size
    (λ k below. sym (parts (first + k))) before
    (subst (λ (i : ℕ). HavePixels i (0 + m) (λ k. g (first + k)) columns new) before.many
    (subst (λ (i : ℕ). HavePixels (length columns) i (λ k. g (first + k)) columns new) at behind))

-- where the samples of the strips and of the rows lie in a column
pub kept_samples : {X : Type 0} (depth : ℕ) (strips rows lent_strips lent_rows : List (List X)) → lent_strips ≡ strips → lent_rows ≡ rows
    → length lent_strips * (STRIP_ROWS * depth) + length lent_rows * depth ≡ kept_count strips rows * depth
kept_samples depth strips rows lent_strips lent_rows same_strips same_rows =
    ap (λ (n : ℕ). n * (STRIP_ROWS * depth) + length lent_rows * depth) (ap length same_strips)
    ∙ ap (λ (n : ℕ). length strips * (STRIP_ROWS * depth) + n * depth) (ap length same_rows) ∙ omega arith

-- columns that are as many as others reach as far
pub reach_lent : {X : Type 0} (first part count now : ℕ) (rows lent : List (List X)) → lent ≡ rows → now ≡ count
    → All (λ row. (first + count) * part ≤ length row) rows → All (λ row. (first + now) * part ≤ length row) lent
reach_lent {X = X} first part count now rows lent same many far =
    subst (λ (n : ℕ). All (λ row. (first + n) * part ≤ length row) lent) (sym many)
    (subst (λ (l : List (List X)). All (λ row. (first + count) * part ≤ length row) l) (sym same) far)

pub rows_stored_first : {X : Type 0} (b : Bool) (first depth : ℕ) (strips rows lent_strips lent_rows : List (List X)) (old columns new : List (Vec X Global))
    → b ≡ true → lent_strips ≡ strips → lent_rows ≡ rows → ReachColumns (first + length old) depth strips rows
    → HavePixels (length old) 0 (λ k. column_of depth lent_rows (first + k)) old columns
    → HavePixels (length columns) (length lent_rows * depth) (λ k. column_of (STRIP_ROWS * depth) lent_strips (first + k)) columns new
    → HavePixels (length old) 0 (λ k. kept_column b depth strips rows (first + k)) old new
rows_stored_first {X = X} b first depth strips rows lent_strips lent_rows old columns new e same_strips same_rows far before behind =
    kept_stored b first depth (length lent_rows * depth) strips rows (column_of depth lent_rows) (column_of (STRIP_ROWS * depth) lent_strips) old columns new
    far
    (λ x.
    ap (λ (l : List (List X)). column_of depth l x ++ column_of (STRIP_ROWS * depth) lent_strips x) same_rows
    ∙ ap (λ (l : List (List X)). column_of depth rows x ++ column_of (STRIP_ROWS * depth) l x) same_strips
    ∙ ap (λ (c : Bool). kept_column c depth strips rows x) (sym e))
    (λ k below.
    length_of_column depth lent_rows (first + k)
    (subst (λ (l : List (List X)). All (λ row. ((first + k) + 1) * depth ≤ length row) l) (sym same_rows)
    (reach depth first (length old) k rows below far.each_row)))
    before behind

pub strips_stored_first : {X : Type 0} (b : Bool) (first depth : ℕ) (strips rows lent_strips lent_rows : List (List X)) (old columns new : List (Vec X Global))
    → b ≡ false → lent_strips ≡ strips → lent_rows ≡ rows → ReachColumns (first + length old) depth strips rows
    → HavePixels (length old) 0 (λ k. column_of (STRIP_ROWS * depth) lent_strips (first + k)) old columns
    → HavePixels (length columns) (length lent_strips * (STRIP_ROWS * depth)) (λ k. column_of depth lent_rows (first + k)) columns new
    → HavePixels (length old) 0 (λ k. kept_column b depth strips rows (first + k)) old new
strips_stored_first {X = X} b first depth strips rows lent_strips lent_rows old columns new e same_strips same_rows far before behind =
    let part : ℕ = STRIP_ROWS * depth in
    kept_stored b first depth (length lent_strips * part) strips rows (column_of part lent_strips) (column_of depth lent_rows) old columns new far
    (λ x.
    ap (λ (l : List (List X)). column_of part l x ++ column_of depth lent_rows x) same_strips
    ∙ ap (λ (l : List (List X)). column_of part strips x ++ column_of depth l x) same_rows
    ∙ ap (λ (c : Bool). kept_column c depth strips rows x) (sym e))
    (λ k below.
    length_of_column part lent_strips (first + k)
    (subst (λ (l : List (List X)). All (λ row. ((first + k) + 1) * part ≤ length row) l) (sym same_strips)
    (reach part first (length old) k strips below far.each_strip)))
    before behind

-- blank columns that got the samples of kept rows
pub kept_columns_made : {X : Type 0} (b : Bool) (first count depth samples len : ℕ) (strips rows : List (List X)) (items lent new : List (Vec X Global))
    → samples ≡ kept_count strips rows * depth → ReachColumns (first + count) depth strips rows
    → lent ≡ items → length items ≡ len → AreBlank count samples items → HavePixels (length lent) 0 (λ k. kept_column b depth strips rows (first + k)) lent new
    → column_samples (take len (new ++ drop (length new) items)) ≡ map (kept_column b depth strips rows) (range_with_len first count)
kept_columns_made {X = X} b first count depth samples len strips rows items lent new size far same all blank h =
    let whole : take len (new ++ drop (length new) items) ≡ new = take_at new (drop (length new) items) len (h.many ∙ ap length same ∙ all) in
    let stored : HavePixels count 0 (λ k. kept_column b depth strips rows (first + k)) items new =
    subst (λ (n : ℕ). HavePixels n 0 (λ k. kept_column b depth strips rows (first + k)) items new) (ap length same ∙ blank.many)
    (subst (λ (l : List (Vec X Global)). HavePixels (length lent) 0 (λ k. kept_column b depth strips rows (first + k)) l new) same h) in
    ap (λ (l : List (Vec X Global)). column_samples l) whole
    ∙ columns_filled first (kept_column b depth strips rows) new blank stored
    (λ k below. length_kept b (first + count) depth (first + k) strips rows (omega arith) far ∙ sym size)

-- ---- a strip that is made

flat_map_of_map : {X Y : Type 0} (f : X → List Y) (xs : List X) → flat_map (λ l. l) (map f xs) ≡ flat_map f xs
flat_map_of_map f [] = refl
flat_map_of_map {Y = Y} f (x ∷ xs) = ap (λ (l : List Y). f x ++ l) (flat_map_of_map f xs)

-- the samples of columns, one column after the other
pub flat_by_map : {X Y : Type 0} (f : X → List Y) (g : ℕ → List Y) (xs : List X) (a n : ℕ) → map f xs ≡ map g (range_with_len a n)
    → flat_map f xs ≡ flat_map g (range_with_len a n)
flat_by_map {X = X} {Y = Y} f g xs a n same =
    sym (flat_map_of_map f xs) ∙ ap (λ (l : List (List Y)). flat_map (λ l. l) l) same ∙ flat_map_of_map g (range_with_len a n)

-- as many columns more, once all of them have passed
pub columns_added : {X : Type 0} (first depth n : ℕ) (rows : List (List X)) (strip made : List X) (passed old new : List (Vec X Global))
    → AreAsLong (length rows * depth) old → All (λ row. (first + length old) * depth ≤ length row) rows
    → HavePixels (length old) 0 (λ k. column_of depth rows (first + k)) old new → passed ≡ new → length passed ≤ n
    → made ≡ strip ++ flat_map (λ (column : Vec X Global). column.items) (take n passed)
    → made ≡ strip ++ flat_map (column_of depth rows) (range_with_len first (length old))
columns_added {X = X} first depth n rows strip made passed old new long far stored same all is =
    let blank : AreBlank (length old) (length rows * depth) old = record { many = refl; long = long } in
    let samples : column_samples new ≡ map (column_of depth rows) (range_with_len first (length old)) =
    columns_filled first (column_of depth rows) new blank stored
    (λ k below. length_of_column depth rows (first + k) (reach depth first (length old) k rows below far)) in
    is ∙ ap (λ (l : List (Vec X Global)). strip ++ flat_map (λ (column : Vec X Global). column.items) l) (take_all n passed all ∙ same)
    ∙ ap (λ (l : List X). strip ++ l) (flat_by_map (λ (column : Vec X Global). column.items) (column_of depth rows) new first (length old) samples)

-- pieces of one length
length_of_first : {X : Type 0} (f : ℕ → List X) (part n : ℕ) → ((k : ℕ) → k < n → length (f k) ≡ part) → length (flat_map f (range_with_len 0 n)) ≡ n * part
length_of_first f part zero long = sym (zero-mul part)
length_of_first {X = X} f part (suc n) long =
    let more : suc n ≡ n + 1 = omega arith in
    let before : length (flat_map f (range_with_len 0 n)) ≡ n * part = length_of_first f part n (λ k lt. long k (omega arith)) in
    let last : length (f n) ≡ part = long n (omega arith) in
    ap (λ (k : ℕ). length (flat_map f (range_with_len 0 k))) more ∙ ap length (flat_map_one_more f 0 n n (omega arith))
    ∙ length-append (flat_map f (range_with_len 0 n)) (f n)
    ∙ omega (arith, before, last, suc-mul n part)

-- a column stands in the strip as its pixel of so many samples
part_of_strip : {X : Type 0} (f : ℕ → List X) (part width x : ℕ) → x < width → ((k : ℕ) → k < width → length (f k) ≡ part)
    → pixel_of part (flat_map f (range_with_len 0 width)) x ≡ f x
part_of_strip {X = X} f part width x below long =
    let rest : ℕ = width - x - 1 in
    let parts : width ≡ x + suc rest = omega arith in
    let place : 0 + x ≡ x = omega arith in
    let behind : List X = flat_map f (range_with_len (x + 1) rest) in
    let prefix : List X = flat_map f (range_with_len 0 x) in
    let size : length prefix ≡ x * part = length_of_first f part x (λ k lt. long k (omega arith)) in
    let all : flat_map f (range_with_len 0 width) ≡ prefix ++ (f x ++ behind) =
    ap (λ (n : ℕ). flat_map f (range_with_len 0 n)) parts ∙ pieces_in_parts f 0 x (suc rest)
    ∙ ap (λ (n : ℕ). prefix ++ flat_map f (range_with_len n (suc rest))) place in
    ap (λ (l : List X). pixel_of part l x) all ∙ ap (take part) (drop_at prefix (f x ++ behind) (x * part) size) ∙ take_at (f x) behind part (long x below)

-- what is said of each member stays so in either order
All-reverse : {X : Type 0} (P : X → Type 0) (xs : List X) → All P xs → All P (reverse xs)
All-reverse P [] h = All-nil P
All-reverse P (x ∷ xs) h =
    subst (All P) (sym (reverse-append (x ∷ []) xs))
    (All-append P (reverse xs) (x ∷ []) (All-reverse P xs (All-tail P x xs h)) (All-cons P x [] (All-head P x xs h) (All-nil P)))

All-in_order : {X : Type 0} (P : X → Type 0) (b : Bool) (xs : List X) → All P xs → All P (in_order b xs)
All-in_order P true xs h = All-reverse P xs h
All-in_order P false xs h = h

length_ordered : {X : Type 0} (b : Bool) (xs : List X) → length (in_order b xs) ≡ length xs
length_ordered true xs = length-reverse xs
length_ordered false xs = refl

-- ordered rows reach as far
pub ordered_reach : {X : Type 0} (b : Bool) (width depth : ℕ) (rows ordered : List (List X)) → ordered ≡ in_order b rows
    → All (λ row. length row ≡ width * depth) rows → All (λ row. width * depth ≤ length row) ordered
ordered_reach {X = X} b width depth rows ordered is each =
    let Reaches : List X → Type 0 = λ row. width * depth ≤ length row in
    subst (All Reaches) (sym is)
    (All-in_order Reaches b rows (All-weaker (λ (row : List X). length row ≡ width * depth) Reaches (λ row e. omega (arith, e)) rows each))

-- they are as many
pub ordered_count : {X : Type 0} (b : Bool) (n : ℕ) (rows ordered : List (List X)) → ordered ≡ in_order b rows → length rows ≡ n → length ordered ≡ n
ordered_count b n rows ordered is count = ap length is ∙ length_ordered b rows ∙ count

-- the columns with a strip more and no rows after it
strip_behind : {X : Type 0} (b : Bool) (depth x : ℕ) (strips rows : List (List X)) (strip : List X)
    → pixel_of (STRIP_ROWS * depth) strip x ≡ column_of depth (in_order b rows) x
    → coming_column b depth (strips ++ strip ∷ []) [] x ≡ coming_column b depth strips rows x
strip_behind {X = X} true depth x strips rows strip is =
    ap (λ (l : List (List X)). column_of (STRIP_ROWS * depth) l x) (reverse-append strips (strip ∷ []))
    ∙ ap (λ (l : List X). l ++ column_of (STRIP_ROWS * depth) (reverse strips) x) is
strip_behind {X = X} false depth x strips rows strip is =
    let part : ℕ = STRIP_ROWS * depth in
    append-nil (column_of part (strips ++ strip ∷ []) x)
    ∙ flat_map-append (λ (l : List X). pixel_of part l x) strips (strip ∷ [])
    ∙ ap (λ (l : List X). column_of part strips x ++ l) (append-nil (pixel_of part strip x) ∙ is)

-- a strip in place of its rows
pub strip_kept : {X : Type 0} (b : Bool) (width depth : ℕ) (strips rows ordered : List (List X)) (strip : List X) → length rows ≡ STRIP_ROWS
    → HaveSizes width depth strips rows → ordered ≡ in_order b rows
    → strip ≡ flat_map (column_of depth ordered) (range_with_len 0 width) → KeepColumns b width depth strips rows (strips ++ strip ∷ []) []
strip_kept {X = X} b width depth strips rows ordered strip count sizes order made =
    let part : ℕ = STRIP_ROWS * depth in
    let each : All (λ (row : List X). length row ≡ width * depth) ordered =
    subst (All (λ (row : List X). length row ≡ width * depth)) (sym order)
    (All-in_order (λ (row : List X). length row ≡ width * depth) b rows sizes.each_row) in
    let many : length ordered ≡ STRIP_ROWS = ap length order ∙ length_ordered b rows ∙ count in
    let long : (x : ℕ) → x < width → length (column_of depth ordered x) ≡ part =
    λ x below.
    let within : (x + 1) * depth ≤ width * depth = mul-le-mul {n₁ = x + 1} {m₁ = depth} {n₂ = width} {m₂ = depth} (omega arith) (omega arith) in
    length_of_column depth ordered x (All-weaker (λ (row : List X). length row ≡ width * depth) (λ (row : List X). (x + 1) * depth ≤ length row)
    (λ row e. omega (arith, within)) ordered each) ∙ ap (λ (n : ℕ). n * depth) many in
    let size : length strip ≡ width * part = ap length made ∙ length_of_first (column_of depth ordered) part width long in
    record {
      sizes = record {
        each_strip = All-append (λ (l : List X). length l ≡ width * part) strips (strip ∷ []) sizes.each_strip
            (All-cons (λ (l : List X). length l ≡ width * part) strip [] size (All-nil (λ (l : List X). length l ≡ width * part)));
        each_row = All-nil (λ (row : List X). length row ≡ width * depth);
      };
      count = omega (arith, length-append strips (strip ∷ []), count);
      same = λ x below. strip_behind b depth x strips rows strip
          (ap (λ (l : List X). pixel_of part l x) made ∙ part_of_strip (column_of depth ordered) part width x below long
          ∙ ap (λ (l : List (List X)). column_of depth l x) order);
    }

-- what a strip's rows become
pub kept_so : {X : Type 0} (b : Bool) (width depth : ℕ) (strips rows ordered : List (List X)) (strip : List X) (new_strips new_rows : List (List X))
    → length rows ≡ STRIP_ROWS → HaveSizes width depth strips rows → ordered ≡ in_order b rows
    → strip ≡ flat_map (column_of depth ordered) (range_with_len 0 width) → new_strips ≡ strips ++ strip ∷ [] → new_rows ≡ []
    → KeepColumns b width depth strips rows new_strips new_rows
kept_so {X = X} b width depth strips rows ordered strip new_strips new_rows count sizes order made added none =
    subst (λ (l : List (List X)). KeepColumns b width depth strips rows new_strips l) (sym none)
    (subst (λ (l : List (List X)). KeepColumns b width depth strips rows l []) (sym added)
    (strip_kept b width depth strips rows ordered strip count sizes order made))

-- ---- rows that are added

-- the columns of rows, with more of them
column_with : {X : Type 0} (depth x : ℕ) (rows more : List (List X)) → column_of depth (rows ++ more) x ≡ column_of depth rows x ++ column_of depth more x
column_with {X = X} depth x rows more = flat_map-append (λ (l : List X). pixel_of depth l x) rows more

-- a column with what more rows have of it, which come first where the order of the rows is reversed
abbrev pub with_more : {X : Type 0} → Bool → List X → List X → List X
with_more b column more = if b then more ++ column else column ++ more

pub come_more : {X : Type 0} (b : Bool) (depth x : ℕ) (come more : List (List X))
    → column_of depth (in_order b (come ++ more)) x ≡ with_more b (column_of depth (in_order b come) x) (column_of depth (in_order b more) x)
come_more {X = X} true depth x come more =
    ap (λ (l : List (List X)). column_of depth l x) (reverse-append come more) ∙ column_with depth x (reverse more) (reverse come)
come_more {X = X} false depth x come more = column_with depth x come more

pub coming_more : {X : Type 0} (b : Bool) (depth x : ℕ) (strips rows more : List (List X))
    → coming_column b depth strips (rows ++ more) x ≡ with_more b (coming_column b depth strips rows x) (column_of depth (in_order b more) x)
coming_more {X = X} true depth x strips rows more =
    let parts : List X = column_of (STRIP_ROWS * depth) (reverse strips) x in
    ap (λ (l : List X). l ++ parts) (come_more true depth x rows more)
    ∙ append_assoc (column_of depth (reverse more) x) (column_of depth (reverse rows) x) parts
coming_more {X = X} false depth x strips rows more =
    let parts : List X = column_of (STRIP_ROWS * depth) strips x in
    ap (λ (l : List X). parts ++ l) (come_more false depth x rows more) ∙ sym (append_assoc parts (column_of depth rows x) (column_of depth more x))

-- a row more has been added, and then some rows went into a strip or not
pub row_more : {X : Type 0} (b : Bool) (width depth : ℕ) (strips rows first come strips₁ rows₁ strips₂ rows₂ strips₃ rows₃ : List (List X)) (row : List X)
    → KeepColumns b width depth strips (rows ++ first) strips₁ rows₁ → come ≡ first ++ row ∷ [] → strips₂ ≡ strips₁ → rows₂ ≡ rows₁ ++ row ∷ []
    → KeepColumns b width depth strips₂ rows₂ strips₃ rows₃ → KeepColumns b width depth strips (rows ++ come) strips₃ rows₃
row_more {X = X} b width depth strips rows first come strips₁ rows₁ strips₂ rows₂ strips₃ rows₃ row before is same added kept =
    let more : List (List X) = row ∷ [] in
    let all : rows ++ come ≡ (rows ++ first) ++ more = ap (λ (l : List (List X)). rows ++ l) is ∙ sym (append_assoc rows first more) in
    let after : KeepColumns b width depth strips₁ (rows₁ ++ more) strips₃ rows₃ =
    subst (λ (l : List (List X)). KeepColumns b width depth l (rows₁ ++ more) strips₃ rows₃) same
    (subst (λ (l : List (List X)). KeepColumns b width depth strips₂ l strips₃ rows₃) added kept) in
    subst (λ (l : List (List X)). KeepColumns b width depth strips l strips₃ rows₃) (sym all)
    record {
      sizes = after.sizes;
      count = omega (arith, after.count, before.count, length-append rows₁ more, length-append (rows ++ first) more);
      same = λ x below.
          after.same x below ∙ coming_more b depth x strips₁ rows₁ more
          ∙ ap (λ (l : List X). with_more b l (column_of depth (in_order b more) x)) (before.same x below)
          ∙ sym (coming_more b depth x strips (rows ++ first) more);
    }

-- rows that reach behind as many columns more
pub reach_more : {X : Type 0} (first count width depth : ℕ) (rows : List (List X)) → first + count ≤ width → All (λ row. width * depth ≤ length row) rows
    → All (λ row. (first + count) * depth ≤ length row) rows
reach_more {X = X} first count width depth rows le far =
    let within : (first + count) * depth ≤ width * depth = mul-le-mul {n₁ = first + count} {m₁ = depth} {n₂ = width} {m₂ = depth} le (omega arith) in
    All-weaker (λ (row : List X). width * depth ≤ length row) (λ (row : List X). (first + count) * depth ≤ length row) (λ row wide. omega (arith, within)) rows
    far

-- the strip with as many columns more
pub next_columns : {X : Type 0} (depth first count len samples : ℕ) (rows : List (List X)) (old made : List X) (items lent new : List (Vec X Global))
    → count ≡ len → length items ≡ len → 0 < count
    → old ≡ flat_map (column_of depth rows) (range_with_len 0 first) → lent ≡ items
    → made ≡ old ++ flat_map (column_of depth rows) (range_with_len first (length lent))
    → length new ≡ length lent → AreAsLong samples new
    → (made ≡ flat_map (column_of depth rows) (range_with_len 0 (first + count))) × (0 < length (take len (new ++ drop (length new) items)))
    × AreAsLong samples (take len (new ++ drop (length new) items))
next_columns {X = X} depth first count len samples rows old made items lent new all many some before same added size long =
    let f : ℕ → List X = column_of depth rows in
    let lengths : length lent ≡ count = omega (arith, ap length same) in
    let whole : take len (new ++ drop (length new) items) ≡ new = take_at new (drop (length new) items) len (omega (arith, size)) in
    let place : 0 + first ≡ first = omega arith in
    let parts : flat_map f (range_with_len 0 (first + count)) ≡ flat_map f (range_with_len 0 first) ++ flat_map f (range_with_len first count) =
    pieces_in_parts f 0 first count ∙ ap (λ (n : ℕ). flat_map f (range_with_len 0 first) ++ flat_map f (range_with_len n count)) place in (
      added ∙ ap (λ (n : ℕ). old ++ flat_map f (range_with_len first n)) lengths ∙ ap (λ (l : List X). l ++ flat_map f (range_with_len first count)) before
          ∙ sym parts,
      omega (arith, ap length whole, size),
      subst (λ (l : List (Vec X Global)). AreAsLong samples l) (sym whole) long,
    )

-- where there are no strips
kept_rows : {X : Type 0} (b : Bool) (depth : ℕ) (rows : List (List X)) (x : ℕ) → column_of depth rows x ≡ kept_column b depth [] rows x
kept_rows true depth rows x = sym (append-nil (column_of depth rows x))
kept_rows false depth rows x = refl

pub kept_alone : {X : Type 0} (b : Bool) (depth first count : ℕ) (strips rows : List (List X)) → strips ≡ []
    → map (column_of depth rows) (range_with_len first count) ≡ map (kept_column b depth strips rows) (range_with_len first count)
kept_alone {X = X} b depth first count strips rows none =
    alike_from (column_of depth rows) (kept_column b depth [] rows) first first count (λ i lt. kept_rows b depth rows (first + i))
    ∙ ap (λ (l : List (List X)). map (kept_column b depth l rows) (range_with_len first count)) (sym none)
