-- The first rows of a raster: rows that are read in turn are spelled, and rows that are spelled are read in turn.
use Rattle.pnm_read.proofs.Words.{is_plain_form, ◌≡◌, ℕ, zero, suc, ◌+◌, ◌<◌, ◌≤◌, Bool, true, false, List, [], ◌∷◌, ◌++◌, length, map, refl, sym, ap, subst}
use Rattle.pnm_read.proofs.Words.{◌∙◌, arith, mul-pos, concat, length-append, length-map, Shape, Kind, Message, Row, HeadValue, IsHead, row_length, with_height}
use Rattle.pnm_read.proofs.Words.{Image, IsImage, rows_of, AreRowsOf, image_of, IsImage-image_of, rows_of-image_of, AreRowsOf-rows_of, length-rows_of, Format}
use Rattle.pnm_read.proofs.Words.{begins_apart, MayFollowSample, SpellsRaw, SpellsPlain, SpellsRasterBy, SpellsRaster, MayFollowRows, BeginsWithRows, Said}
use Rattle.pnm_read.proofs.Words.{rows_said}
use Rattle.pnm_read.proofs.PlainLaws.{SpellsOn, apart_follows, plain_rows_in_turn, spelled_prefix, plain_rows_are_read, last_row_ends}
use Rattle.pnm_read.proofs.RawLaws.{packable, raw_rows_have_bytes, raw_rows_are_read}
use Rattle.pnm_read.proofs.SaidLaws.{row_is_row}
use Rattle.pnm_read.proofs.RowsInTurn.{RowsRead, rows_count, read_rows_come_first}

-- the image of some of a head's rows
abbrev pub first_of : HeadValue → List (List ℕ) → Image
first_of head rows = image_of (with_height head (length rows)) rows

-- rows of a shape are rows of the shape with another height
rows_at_height : (s : Shape) (height : ℕ) (rows : List (List ℕ)) → AreRowsOf s rows → AreRowsOf (record s { height = height }) rows
rows_at_height s height [] are = tt
rows_at_height s height (row ∷ rows) are = (record { count = are.0.count; range = are.0.range }, rows_at_height s height rows are.1)

-- a head keeps the rules of heads with fewer rows
head_of_fewer : (head : HeadValue) (n : ℕ) → IsHead head → n ≤ head.shape.height → IsHead (with_height head n)
head_of_fewer head n h le = record {
  limits = record {
    width_low = h.limits.width_low;
    width_high = h.limits.width_high;
    height_high = let most = h.limits.height_high in omega arith;
    depth_low = h.limits.depth_low;
    depth_high = h.limits.depth_high;
    row_high = h.limits.row_high;
    maxval_low = h.limits.maxval_low;
    maxval_high = h.limits.maxval_high;
  };
  suits = h.suits;
}

pub rows_of-first_of : (head : HeadValue) (rows : List (List ℕ)) → AreRowsOf head.shape rows → rows_of (first_of head rows) ≡ rows
rows_of-first_of head rows are = rows_of-image_of (with_height head (length rows)) rows refl (rows_at_height head.shape (length rows) rows are)

-- a part of the text spells the image of these rows, and a rest is left
pub record RowsSpelled (format : Format) (head : HeadValue) (rows : List (List ℕ)) (text rest : List ℕ) : Type 0 where
  pub raster : List ℕ
  pub whole : text ≡ raster ++ rest
  pub raster_is : SpellsRaster format raster (first_of head rows)

-- ---- plain rows that are read are spelled

-- after samples comes what may follow one
sample_ends : (kind : Kind) (text samples rest : List ℕ) → SpellsOn kind text samples rest → 0 < length samples → MayFollowSample kind rest
sample_ends kind text [] rest s some = absurd (omega arith)
sample_ends kind text (sample ∷ []) rest s some = subst (MayFollowSample kind) s.5 s.4
sample_ends kind text (sample ∷ next ∷ samples) rest s some = sample_ends kind s.1 (next ∷ samples) rest s.5 (omega arith)

may_follow_rows : (kind : Kind) (rows more : ℕ) (rest : List ℕ) → (0 < rows → MayFollowSample kind rest) → (0 < rows → more ≡ 0 → begins_apart rest ≡ true)
    → MayFollowRows true kind rows more rest
may_follow_rows kind zero more rest follows last = tt
may_follow_rows kind (suc rows) zero rest follows last = last (omega arith) refl
may_follow_rows kind (suc rows) (suc more) rest follows last = follows (omega arith)

-- ---- rows that are spelled are read

-- what follows rows, as it follows a sample, and the last row
follows_rows : (kind : Kind) (rows more : ℕ) (rest : List ℕ) → MayFollowRows true kind rows more rest → 0 < rows → MayFollowSample kind rest
follows_rows kind zero more rest f some = absurd (omega arith)
follows_rows kind (suc rows) zero rest f some = apart_follows kind rest f
follows_rows kind (suc rows) (suc more) rest f some = f

ends_rows : (kind : Kind) (rows more : ℕ) (rest : List ℕ) → MayFollowRows true kind rows more rest → 0 < rows → more ≡ 0 → begins_apart rest ≡ true
ends_rows kind zero more rest f some last = absurd (omega arith)
ends_rows kind (suc rows) zero rest f some last = f
ends_rows kind (suc rows) (suc more) rest f some last = absurd (omega arith)

-- the head of an image with some more rows
abbrev taller : Image → ℕ → HeadValue
taller image more = with_height image.head (image.head.shape.height + more)

spelled_rows_by : (is_plain : Bool) (format : Format) (first : Image) (raster : List ℕ) (more : ℕ) (rest : List ℕ) → is_plain_form format.form ≡ is_plain
    → SpellsRasterBy is_plain raster first → IsHead (taller first more)
    → MayFollowRows is_plain first.head.shape.kind first.head.shape.height more rest
    → RowsRead format (taller first more).shape (rows_of first) (taller first more).shape.height (raster ++ rest) more rest
spelled_rows_by false format first raster more rest raw spelled h follows =
    let rows : ℕ = first.head.shape.height in
    let s : Shape = (taller first more).shape in
    let are : AreRowsOf s (rows_of first) = rows_at_height first.head.shape (rows + more) (rows_of first) (AreRowsOf-rows_of first spelled.sound) in
    let read = raw_rows_are_read format rows (rows + more) raster more rest raw (packable (taller first more) h) refl spelled.count
    (subst (AreRowsOf s) spelled.rows are) in
    subst (λ (l : List (List ℕ)). RowsRead format s l (rows + more) (raster ++ rest) more rest) (sym spelled.rows) read
spelled_rows_by true format first raster more rest plain spelled h follows =
    let rows : ℕ = first.head.shape.height in
    let kind : Kind = first.head.shape.kind in
    plain_rows_in_turn format (taller first more).shape rows (rows + more) raster first.samples more rest plain refl spelled.sound.count spelled.samples
    spelled.sound.range (follows_rows kind rows more rest follows) (ends_rows kind rows more rest follows)

-- ---- images of some rows

module _ {head : HeadValue} where
  -- rows that were read are rows of the head's shape
  pub rows_are_rows : (format : Format) (rows : List (List ℕ)) (n : ℕ) (text : List ℕ) (more : ℕ) (rest : List ℕ) → IsHead head
      → RowsRead format head.shape rows n text more rest → AreRowsOf head.shape rows
  rows_are_rows format [] n text more rest h read = tt
  rows_are_rows format (row ∷ rows) zero text more rest h read = absurd read
  rows_are_rows format (row ∷ rows) (suc n) text more rest h read =
      (row_is_row (is_plain_form format.form) n text h read.1, rows_are_rows format rows n read.0 more rest h read.2)

  first_is_image : (rows : List (List ℕ)) → IsHead head → length rows ≤ head.shape.height → AreRowsOf head.shape rows → IsImage (first_of head rows)
  first_is_image rows h le are = IsImage-image_of (with_height head (length rows)) rows (head_of_fewer head (length rows) h le) refl
      (rows_at_height head.shape (length rows) rows are)

  -- ---- raw rows that are read are spelled

  raw_rows_are_spelled : {format : Format} {rows : List (List ℕ)} (n : ℕ) {text : List ℕ} (more : ℕ) {rest : List ℕ} → is_plain_form format.form ≡ false
      → IsHead head → length rows ≤ head.shape.height → RowsRead format head.shape rows n text more rest → RowsSpelled format head rows text rest
  raw_rows_are_spelled {format} {rows} n {text} more raw h le read =
      let r = raw_rows_have_bytes format rows n text more raw h read in
      let spelled : SpellsRaw r.bytes (first_of head rows) =
      record { sound = first_is_image rows h le r.are; count = r.count; rows = rows_of-first_of head rows r.are ∙ sym r.rows_are } in
      record { raster = r.bytes; whole = r.whole; raster_is = subst (λ (p : Bool). SpellsRasterBy p r.bytes (first_of head rows)) (sym raw) spelled }

  plain_rows_end : (format : Format) (rows : List (List ℕ)) (n : ℕ) (text : List ℕ) (more : ℕ) (rest : List ℕ) → is_plain_form format.form ≡ true
      → IsHead head → RowsRead format head.shape rows n text more rest → MayFollowRows true head.shape.kind (length rows) more rest
  plain_rows_end format rows n text more rest plain h read =
      let s : Shape = head.shape in
      let r = plain_rows_are_read format s rows n text more rest plain read in
      let each : 0 < row_length s = mul-pos {m = s.width} {n = s.depth} h.limits.width_low h.limits.depth_low in
      may_follow_rows s.kind (length rows) more rest
      (λ some. sample_ends s.kind text (concat rows) rest r.spelled (let samples = mul-pos {m = length rows} {n = row_length s} some each in
      omega (arith, r.count, samples))) (λ some last. last_row_ends format s rows n text rest plain read some last)

  plain_rows_are_spelled : {format : Format} {rows : List (List ℕ)} (n : ℕ) {text : List ℕ} (more : ℕ) {rest : List ℕ} → is_plain_form format.form ≡ true
      → IsHead head → length rows ≤ head.shape.height → RowsRead format head.shape rows n text more rest → RowsSpelled format head rows text rest
  plain_rows_are_spelled {format} {rows} n {text} more {rest} plain h le read =
      let are = rows_are_rows format rows n text more rest h read in
      let f = spelled_prefix head.shape.kind text (concat rows) rest (plain_rows_are_read format head.shape rows n text more rest plain read).spelled in
      let spelled : SpellsPlain f.0 (first_of head rows) = record { sound = first_is_image rows h le are; samples = f.2 } in
      record { raster = f.0; whole = f.1; raster_is = subst (λ (p : Bool). SpellsRasterBy p f.0 (first_of head rows)) (sym plain) spelled }

  -- ---- rows that are read are the first of a raster

  rows_spelled_by : (is_plain : Bool) {format : Format} {rows : List (List ℕ)} (n : ℕ) {text : List ℕ} (more : ℕ) {rest : List ℕ}
      → is_plain_form format.form ≡ is_plain → IsHead head → length rows ≤ head.shape.height → RowsRead format head.shape rows n text more rest
      → RowsSpelled format head rows text rest
  rows_spelled_by false n more e h le read = raw_rows_are_spelled n more e h le read
  rows_spelled_by true n more e h le read = plain_rows_are_spelled n more e h le read

  pub read_rows_are_spelled : (format : Format) {rows : List (List ℕ)} {text : List ℕ} (more : ℕ) {rest : List ℕ} → IsHead head
      → RowsRead format head.shape rows head.shape.height text more rest → RowsSpelled format head rows text rest
  read_rows_are_spelled format {rows} {text} more {rest} h read =
      let s : Shape = head.shape in
      rows_spelled_by (is_plain_form format.form) s.height more refl h (omega (arith, rows_count format s rows s.height text more rest read)) read

  rows_end_by : (is_plain : Bool) (format : Format) (rows : List (List ℕ)) (n : ℕ) (text : List ℕ) (more : ℕ) (rest : List ℕ)
      → is_plain_form format.form ≡ is_plain → IsHead head → RowsRead format head.shape rows n text more rest
      → MayFollowRows is_plain head.shape.kind (length rows) more rest
  rows_end_by false format rows n text more rest e h read = tt
  rows_end_by true format rows n text more rest e h read = plain_rows_end format rows n text more rest e h read

  pub read_rows_begin : {format : Format} (rows : List (List ℕ)) {text : List ℕ} (more : ℕ) (rest : List ℕ) → IsHead head
      → RowsRead format head.shape rows head.shape.height text more rest → BeginsWithRows text format head (first_of head rows)
  read_rows_begin {format} rows {text} more rest h read =
      let s : Shape = head.shape in
      let r = read_rows_are_spelled format more h read in
      record {
        raster = r.raster;
        rest = rest;
        more = more;
        whole = r.whole;
        raster_is = r.raster_is;
        head_is = ap (with_height head) (rows_count format s rows s.height text more rest read);
        follows = rows_end_by (is_plain_form format.form) format rows s.height text more rest refl h read;
      }

  -- the first rows of a raster are read in turn
  rows_that_begin : {format : Format} {first : Image} {text : List ℕ} (b : BeginsWithRows text format head first) → IsHead head
      → RowsRead format head.shape (rows_of first) head.shape.height text b.more b.rest
  rows_that_begin {format} {first} b h =
      let Reads : HeadValue → Type 0 = λ x. IsHead x → MayFollowRows (is_plain_form format.form) x.shape.kind first.head.shape.height b.more b.rest
      → RowsRead format x.shape (rows_of first) x.shape.height (b.raster ++ b.rest) b.more b.rest in
      let read = subst Reads (sym b.head_is)
      (λ is follows. spelled_rows_by (is_plain_form format.form) format first b.raster b.more b.rest refl b.raster_is is follows) h b.follows in
      subst (λ (t : List ℕ). RowsRead format head.shape (rows_of first) head.shape.height t b.more b.rest) (sym b.whole) read

  -- no more rows begin a text than are said of it
  pub no_more_rows : (later : List ℕ → Said) {format : Format} (rows : List (List ℕ)) {text : List ℕ} {others : Image} → IsHead head
      → (rows_said later format head.shape head.shape.height text).messages ≡ map Row rows → BeginsWithRows text format head others
      → others.head.shape.height ≤ length rows
  no_more_rows later {format} rows {text} {others} h said b =
      let s : Shape = head.shape in
      let after : List Message = (rows_said later format s b.more b.rest).messages in
      let all : map Row rows ≡ map Row (rows_of others) ++ after = sym said ∙ read_rows_come_first later format s (rows_of others) s.height text b.more b.rest
      (rows_that_begin b h) in
      omega (
        arith,
        ap (λ (l : List Message). length l) all,
        length-append (map Row (rows_of others)) after,
        length-map rows Row,
        length-map (rows_of others) Row,
        length-rows_of others,
      )
