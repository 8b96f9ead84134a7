-- The text of a plain raster spells its samples.
use Rattle.pnm_serial.proofs.Words.{◌≡◌, ℕ, ◌+◌, ◌*◌, ◌^◌, ◌==◌, ◌<◌, ◌≤◌, if◌then◌else◌, Bool, true, false, List, [], ◌∷◌, ◌++◌, length, flat_map, All, refl}
use Rattle.pnm_serial.proofs.Words.{sym, ap, subst, ◌∙◌, append_assoc, arith, AllByRecursion, concat, All-nil, All-cons, All-weaker, Shape, Kind, Bit, Gray}
use Rattle.pnm_serial.proofs.Words.{Color, Pam, Plain, HeadValue, IsHead, Suits, row_length, Image, IsImage, rows_of, IsRowOf, is_white, AreRowsOf}
use Rattle.pnm_serial.proofs.Words.{AreRowsOf-rows_of, length-rows_of, concat-cut_rows, begins_apart, IsGap, SpellsSample, SpellsPiece, MayFollowSample}
use Rattle.pnm_serial.proofs.Words.{SpellsPlainSamples, apart_follows, row_bytes, byte, sample_text, plain_row_text, fits_in_line, separator, column_after}
use Rattle.pnm_serial.proofs.Words.{word_in_line, text_of_part, sample_texts, IsShortWord, each_within, sample_is_short, row_text_left, has_begun_line}
use Rattle.std.proofs.Common.{length-append}
use Rattle.pnm_read.specs.HeaderTexts.{uncommented_from}
use Rattle.pnm_serial.proofs.DecimalText.{decimal_spells}

-- ---- samples

-- a sample's text spells it, and is a short word
record IsSpelled (kind : Kind) (sample : ℕ) : Type 0 where
  spells : SpellsSample kind (sample_text kind sample) sample
  word : IsShortWord (sample_text kind sample)

abbrev AreSpelled : Kind → List ℕ → Type 0
AreSpelled kind samples = AllByRecursion (IsSpelled kind) samples

spells_by : (kind : Kind) (depth maxval : ℕ) (tuple_type : List ℕ) → Suits kind depth maxval tuple_type → maxval ≤ 65535 → (sample : ℕ) → sample ≤ maxval
    → SpellsSample kind (sample_text kind sample) sample
spells_by Bit depth maxval tuple_type suits high sample within = (omega (arith, suits.1), refl)
spells_by Gray depth maxval tuple_type suits high sample within = decimal_spells (omega arith)
spells_by Color depth maxval tuple_type suits high sample within = decimal_spells (omega arith)
spells_by Pam depth maxval tuple_type suits high sample within = decimal_spells (omega arith)

-- the samples of a row are spelled
row_is_spelled : {head : HeadValue} → IsHead head → {row : List ℕ} → IsRowOf head.shape row → AreSpelled head.shape.kind row
row_is_spelled {head} sound {row} is =
    let high : head.shape.maxval ≤ 65535 = omega (arith, sound.limits.maxval_high) in
    each_within (IsSpelled head.shape.kind) head.shape.maxval (λ sample within. record {
      spells = spells_by head.shape.kind head.shape.depth head.shape.maxval head.tuple_type sound.suits high sample within;
      word = sample_is_short head.shape.kind head.shape.depth head.shape.maxval head.tuple_type sound.suits high sample within;
    }) row is.range

-- ---- words

-- what may stand before a word
no_gap : IsGap []
unfolding uncommented_from
no_gap = record { white = All-nil (λ b. is_white b ≡ true); outside = refl }

blank_gap : IsGap (byte " " ∷ [])
unfolding uncommented_from
blank_gap = record { white = All-cons (λ b. is_white b ≡ true) 32 [] refl (All-nil (λ b. is_white b ≡ true)); outside = refl }

feed_gap : IsGap (byte "\n" ∷ [])
unfolding uncommented_from
feed_gap = record { white = All-cons (λ b. is_white b ≡ true) 10 [] refl (All-nil (λ b. is_white b ≡ true)); outside = refl }

-- a gap of at most one byte and the text of a sample
piece_spells : (kind : Kind) (gap : List ℕ) (sample : ℕ) → IsGap gap → length gap ≤ 1 → IsSpelled kind sample
    → SpellsPiece kind (gap ++ sample_text kind sample) sample
piece_spells kind gap sample is one spelled = record {
  gap = gap;
  digits = sample_text kind sample;
  whole = refl;
  gap_is = is;
  digits_are = spelled.spells;
  short = omega (arith, length-append gap (sample_text kind sample), spelled.word.short);
}

-- what stands before a word behind a line that has begun, by whether it fits in
record IsBefore (gap : List ℕ) : Type 0 where
  is_gap : IsGap gap
  one : length gap ≤ 1
  apart : (text : List ℕ) → begins_apart (gap ++ text) ≡ true

before_word : (at_start fits : Bool) → at_start ≡ false → IsBefore (if at_start then [] else if fits then byte " " ∷ [] else byte "\n" ∷ [])
before_word true fits begun = cc
before_word false true begun = record { is_gap = blank_gap; one = omega arith; apart = λ text. refl }
before_word false false begun = record { is_gap = feed_gap; one = omega arith; apart = λ text. refl }

separator_is : (column : ℕ) (word : List ℕ) → 0 < column → IsBefore (separator column word)
separator_is column word begun = before_word (column == 0) (fits_in_line column word) (has_begun_line column begun)

-- a line that has a word has begun
column_by : (at_start fits : Bool) (column size : ℕ) → 0 < size → 0 < (if at_start then size else if fits then column + 1 + size else size)
column_by true fits column size some = some
column_by false true column size some = omega arith
column_by false false column size some = some

column_begun : (column : ℕ) (word : List ℕ) → 0 < length word → 0 < column_after column word
column_begun column word some = column_by (column == 0) (fits_in_line column word) column (length word) some

-- behind a line that has begun, a sample may be followed by the text of others
part_begins_apart : (kind : Kind) (column : ℕ) (samples : List ℕ) → 0 < column → begins_apart (text_of_part column (sample_texts kind samples)) ≡ true
part_begins_apart kind column [] begun = refl
part_begins_apart kind column (sample ∷ samples) begun =
    let word : List ℕ = sample_text kind sample in
    let more : List ℕ = text_of_part (column_after column word) (sample_texts kind samples) in
    ap begins_apart (append_assoc (separator column word) word more) ∙ (separator_is column word begun).apart (word ++ more)

-- the samples after a first one
others_spell : (kind : Kind) (column : ℕ) (samples : List ℕ) → 0 < column → AreSpelled kind samples
    → SpellsPlainSamples kind (text_of_part column (sample_texts kind samples)) samples
others_spell kind column [] begun are = refl
others_spell kind column (sample ∷ samples) begun are =
    let word : List ℕ = sample_text kind sample in
    let now : ℕ = column_after column word in
    let before : IsBefore (separator column word) = separator_is column word begun in
    let then_begun : 0 < now = column_begun column word are.0.word.some in (
      word_in_line column word,
      text_of_part now (sample_texts kind samples),
      refl,
      piece_spells kind (separator column word) sample before.is_gap before.one are.0,
      apart_follows kind (text_of_part now (sample_texts kind samples)) (part_begins_apart kind now samples then_begun),
      others_spell kind now samples then_begun are.1,
    )

-- the samples of a row, behind a gap of at most one byte
row_spells : (kind : Kind) {gap : List ℕ} (row : List ℕ) → IsGap gap → length gap ≤ 1 → 0 < length row → AreSpelled kind row
    → SpellsPlainSamples kind (gap ++ text_of_part 0 (sample_texts kind row)) row
row_spells kind [] is one some are = absurd (omega arith)
row_spells kind {gap} (sample ∷ samples) is one some are =
    let word : List ℕ = sample_text kind sample in
    let now : ℕ = length word in (
      gap ++ word,
      text_of_part now (sample_texts kind samples),
      sym (append_assoc gap word (text_of_part now (sample_texts kind samples))),
      piece_spells kind gap sample is one are.0,
      apart_follows kind (text_of_part now (sample_texts kind samples)) (part_begins_apart kind now samples are.0.word.some),
      others_spell kind now samples are.0.word.some are.1,
    )

-- ---- rows

apart_more : (prefix rest : List ℕ) → begins_apart prefix ≡ true → begins_apart rest ≡ true → begins_apart (prefix ++ rest) ≡ true
apart_more [] rest f r = r
apart_more (b ∷ prefix) rest f r = f

follows_more : (kind : Kind) (prefix rest : List ℕ) → MayFollowSample kind prefix → begins_apart rest ≡ true → MayFollowSample kind (prefix ++ rest)
follows_more Bit prefix rest f r = tt
follows_more Gray prefix rest f r = apart_more prefix rest f r
follows_more Color prefix rest f r = apart_more prefix rest f r
follows_more Pam prefix rest f r = apart_more prefix rest f r

-- samples, and behind white space others
both_spell : (kind : Kind) (text more samples others : List ℕ) → SpellsPlainSamples kind text samples → begins_apart more ≡ true
    → SpellsPlainSamples kind more others → SpellsPlainSamples kind (text ++ more) (samples ++ others)
both_spell kind text more [] others s apart o = subst (λ (l : List ℕ). SpellsPlainSamples kind (l ++ more) others) (sym s) o
both_spell kind text more (sample ∷ samples) others s apart o = (
  s.0,
  s.1 ++ more,
  ap (λ (l : List ℕ). l ++ more) s.2 ∙ append_assoc s.0 s.1 more,
  s.3,
  follows_more kind s.1 more s.4 apart,
  both_spell kind s.1 more samples others s.5 apart o,
)

-- the rows after a first one, but for the last LF
abbrev next_rows : Kind → List (List ℕ) → List ℕ
next_rows kind [] = []
next_rows kind (row ∷ rows) = (byte "\n" ∷ [] ++ text_of_part 0 (sample_texts kind row)) ++ next_rows kind rows

next_begin_apart : (kind : Kind) (rows : List (List ℕ)) → begins_apart (next_rows kind rows) ≡ true
next_begin_apart kind [] = refl
next_begin_apart kind (row ∷ rows) = refl

-- what holds of each row
record RowSpelled (kind : Kind) (row : List ℕ) : Type 0 where
  some : 0 < length row
  are : AreSpelled kind row
  text : plain_row_text kind row ≡ text_of_part 0 (sample_texts kind row) ++ byte "\n" ∷ []

next_rows_spell : (kind : Kind) (rows : List (List ℕ)) → AllByRecursion (RowSpelled kind) rows → SpellsPlainSamples kind (next_rows kind rows) (concat rows)
next_rows_spell kind [] are = refl
next_rows_spell kind (row ∷ rows) are =
    both_spell kind (byte "\n" ∷ [] ++ text_of_part 0 (sample_texts kind row)) (next_rows kind rows) row (concat rows)
    (row_spells kind row feed_gap (omega arith) are.0.some are.0.are) (next_begin_apart kind rows) (next_rows_spell kind rows are.1)

-- with a LF before them they are the rows' texts
next_rows_text : (kind : Kind) (rows : List (List ℕ)) → AllByRecursion (RowSpelled kind) rows
    → byte "\n" ∷ flat_map (plain_row_text kind) rows ≡ next_rows kind rows ++ byte "\n" ∷ []
next_rows_text kind [] are = refl
next_rows_text kind (row ∷ rows) are =
    let text : List ℕ = text_of_part 0 (sample_texts kind row) in
    ap (λ (l : List ℕ). byte "\n" ∷ (l ++ flat_map (plain_row_text kind) rows)) are.0.text
    ∙ ap (λ (l : List ℕ). byte "\n" ∷ l) (append_assoc text (byte "\n" ∷ []) (flat_map (plain_row_text kind) rows))
    ∙ ap (λ (l : List ℕ). byte "\n" ∷ (text ++ l)) (next_rows_text kind rows are.1)
    ∙ ap (λ (l : List ℕ). byte "\n" ∷ l) (sym (append_assoc text (next_rows kind rows) (byte "\n" ∷ [])))

-- the text of a raster: what spells the samples, and a LF
pub record PlainRaster (kind : Kind) (text samples : List ℕ) : Type 0 where
  pub body : List ℕ
  pub whole : text ≡ body ++ byte "\n" ∷ []
  pub spelled : SpellsPlainSamples kind body samples

rows_spell : {kind : Kind} (rows : List (List ℕ)) → 0 < length rows → AllByRecursion (RowSpelled kind) rows
    → PlainRaster kind (flat_map (plain_row_text kind) rows) (concat rows)
rows_spell [] some are = absurd (omega arith)
rows_spell {kind} (row ∷ rows) some are =
    let text : List ℕ = text_of_part 0 (sample_texts kind row) in
    record {
      body = text ++ next_rows kind rows;
      whole = ap (λ (l : List ℕ). l ++ flat_map (plain_row_text kind) rows) are.0.text
          ∙ append_assoc text (byte "\n" ∷ []) (flat_map (plain_row_text kind) rows)
          ∙ ap (λ (l : List ℕ). text ++ l) (next_rows_text kind rows are.1)
          ∙ sym (append_assoc text (next_rows kind rows) (byte "\n" ∷ []));
      spelled = both_spell kind text (next_rows kind rows) row (concat rows) (row_spells kind row no_gap (omega arith) are.0.some are.0.are)
          (next_begin_apart kind rows) (next_rows_spell kind rows are.1);
    }

-- ---- images

-- the text of a row with samples is what is left of it, and a LF
row_text : (kind : Kind) (row : List ℕ) → 0 < length row → All (λ sample. sample < 2 ^ 64) row
    → plain_row_text kind row ≡ text_of_part 0 (sample_texts kind row) ++ byte "\n" ∷ []
row_text kind [] some fit = absurd (omega arith)
row_text kind (sample ∷ row) some fit = row_text_left kind (sample ∷ row) fit

row_of_image : (head : HeadValue) → IsHead head → 0 < row_length head.shape → (row : List ℕ) → IsRowOf head.shape row → RowSpelled head.shape.kind row
row_of_image head sound long row is = record {
  some = omega (arith, is.count);
  are = row_is_spelled sound is;
  text = row_text head.shape.kind row (omega (arith, is.count))
      (All-weaker (λ x. x ≤ head.shape.maxval) (λ x. x < 2 ^ 64) (λ x h. omega (arith, sound.limits.maxval_high)) row is.range);
}

rows_of_image : {head : HeadValue} → IsHead head → 0 < row_length head.shape → (rows : List (List ℕ)) → AreRowsOf head.shape rows
    → AllByRecursion (RowSpelled head.shape.kind) rows
rows_of_image sound long [] are = tt
rows_of_image {head} sound long (row ∷ rows) are = (row_of_image head sound long row are.0, rows_of_image sound long rows are.1)

has_samples : (width depth : ℕ) → 0 < width → 0 < depth → 0 < width * depth
has_samples width depth w d = grind arith

-- the text of an image's rows
pub plain_raster_spells : {image : Image} → IsImage image → 0 < image.head.shape.height
    → PlainRaster image.head.shape.kind (flat_map (row_bytes Plain image.head.shape) (rows_of image)) image.samples
plain_raster_spells {image} sound rows =
    let s : Shape = image.head.shape in
    let limits = sound.head.limits in
    let count : length (rows_of image) ≡ s.height = length-rows_of image in
    let raster =
    rows_spell (rows_of image) (omega arith)
    (rows_of_image sound.head (has_samples s.width s.depth limits.width_low limits.depth_low) (rows_of image) (AreRowsOf-rows_of image sound)) in
    subst (PlainRaster s.kind (flat_map (plain_row_text s.kind) (rows_of image))) (concat-cut_rows s.height (row_length s) image.samples sound.count) raster
