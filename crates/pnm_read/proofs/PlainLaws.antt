-- Plain rasters: of what spells an image its rows are said, and what is said without a fault spells an image.
use Rattle.pnm_read.proofs.Words.{is_plain_form, ◌≡◌, ℕ, zero, suc, ◌+◌, ◌*◌, ◌<◌, ◌≤◌, Bool, true, List, [], ◌∷◌, ◌++◌, length, take, drop, map, All, None}
use Rattle.pnm_read.proofs.Words.{Result, Ok, Err, refl, sym, ap, subst, ◌∙◌, append_assoc, arith, zero-mul, suc-mul, concat, nil_from_length, All-nil}
use Rattle.pnm_read.proofs.Words.{All-cons, All-head, All-tail, All-append, All-drop, All-weaker, Row, ImageEnd, StreamEnd, Shape, Kind, Bit, Gray, Color, Pam}
use Rattle.pnm_read.proofs.Words.{HeadValue, IsHead, Suits, row_length, Image, cut_rows, rows_of, IsRowOf, InputFault, BadSample, Format, begins_apart}
use Rattle.pnm_read.proofs.Words.{SpellsPiece, MayFollowSample, SpellsPlainSamples, SpellsPlain, ◌>>=◌, plain_sample, Said, then_said, row_in_form, row_at}
use Rattle.pnm_read.proofs.Words.{after_messages}
use Rattle.std.proofs.Common.{length-append, length-drop}
use Rattle.std.specs.Prelude.{if◌then◌else◌}
use Rattle.pnm_read.specs.Items.{after_last_item}
use Rattle.pnm_read.specs.Said.{in_turn, plain_row, last_plain_row, rows_said}
use Rattle.pnm_read.proofs.EndSaid.{end_said}
use Rattle.pnm_read.proofs.RowsInTurn.{RowsRead, rows_count, read_rows_are_said, all_read, no_more_to_come}
use Rattle.pnm_read.proofs.PieceLaws.{bind_ok, done, ok_is, if_ok}
use Rattle.pnm_read.proofs.SampleLaws.{IsInRange, spelled_piece_is_read, read_piece_is_spelled}

-- ---- what may follow

apart_more : (prefix rest : List ℕ) → begins_apart prefix ≡ true → begins_apart rest ≡ true → begins_apart (prefix ++ rest) ≡ true
apart_more [] rest f r = r
apart_more (b ∷ prefix) rest f r = f

-- where more follows a text, the same may go before both as before the text
follows_more : (kind : Kind) (prefix rest : List ℕ) → MayFollowSample kind prefix → MayFollowSample kind rest → MayFollowSample kind (prefix ++ rest)
follows_more Bit prefix rest f r = tt
follows_more Gray prefix rest f r = apart_more prefix rest f r
follows_more Color prefix rest f r = apart_more prefix rest f r
follows_more Pam prefix rest f r = apart_more prefix rest f r

-- white space and # may follow a sample of any kind
pub apart_follows : (kind : Kind) (rest : List ℕ) → begins_apart rest ≡ true → MayFollowSample kind rest
apart_follows Bit rest r = tt
apart_follows Gray rest r = r
apart_follows Color rest r = r
apart_follows Pam rest r = r

apart_less : (prefix rest : List ℕ) → begins_apart (prefix ++ rest) ≡ true → begins_apart prefix ≡ true
apart_less [] rest f = refl
apart_less (b ∷ prefix) rest f = f

follows_less : (kind : Kind) (prefix rest : List ℕ) → MayFollowSample kind (prefix ++ rest) → MayFollowSample kind prefix
follows_less Bit prefix rest f = tt
follows_less Gray prefix rest f = apart_less prefix rest f
follows_less Color prefix rest f = apart_less prefix rest f
follows_less Pam prefix rest f = apart_less prefix rest f

-- ---- samples that are spelled are read

-- two items in turn, the first of which was read
first_read : (kind : Kind) (maxval n : ℕ) (text : List ℕ) {first : ℕ × List ℕ} {more : List ℕ × List ℕ} → plain_sample kind maxval text ≡ Ok first
    → in_turn (plain_sample kind maxval) n first.1 ≡ Ok more → in_turn (plain_sample kind maxval) (suc n) text ≡ Ok (first.0 ∷ more.0, more.1)
unfolding in_turn
first_read kind maxval n text {first} e f =
    ap (λ (r : Result (ℕ × List ℕ) InputFault). r >>= λ x. in_turn (plain_sample kind maxval) n x.1 >>= λ y. Ok (x.0 ∷ y.0, y.1)) e
    ∙ ap (λ (r : Result (List ℕ × List ℕ) InputFault). r >>= λ y. Ok (first.0 ∷ y.0, y.1)) f

-- so many samples are read, and a text is left that spells the others
abbrev ReadsSamples : Kind → ℕ → ℕ → List ℕ → List ℕ → List ℕ → Type 0
ReadsSamples kind maxval n text samples rest =
    (left : List ℕ) × (in_turn (plain_sample kind maxval) n (text ++ rest) ≡ Ok (take n samples, left ++ rest)) × SpellsPlainSamples kind left (drop n samples)

spelled_samples_are_read : (kind : Kind) (maxval n : ℕ) (text samples rest : List ℕ) → n ≤ length samples → SpellsPlainSamples kind text samples
    → All (λ sample. sample ≤ maxval) samples → MayFollowSample kind rest
    → ReadsSamples kind maxval n text samples rest
unfolding in_turn
spelled_samples_are_read kind maxval zero text samples rest le s range follows = (text, refl, s)
spelled_samples_are_read kind maxval (suc n) text [] rest le s range follows = absurd (omega arith)
spelled_samples_are_read kind maxval (suc n) text (sample ∷ samples) rest le s range follows =
    let within : n ≤ length samples = omega arith in
    let more = spelled_samples_are_read kind maxval n s.1 samples rest within s.5 (All-tail (λ x. x ≤ maxval) sample samples range) follows in
    let first : plain_sample kind maxval (s.0 ++ (s.1 ++ rest)) ≡ Ok (sample, s.1 ++ rest) =
    spelled_piece_is_read kind maxval s.0 (s.1 ++ rest) sample s.3 (follows_more kind s.1 rest s.4 follows) (All-head (λ x. x ≤ maxval) sample samples range) in
    let whole : text ++ rest ≡ s.0 ++ (s.1 ++ rest) = ap (λ (t : List ℕ). t ++ rest) s.2 ∙ append_assoc s.0 s.1 rest in
    let here : plain_sample kind maxval (text ++ rest) ≡ Ok (sample, s.1 ++ rest) = ap (plain_sample kind maxval) whole ∙ first in
    (more.0, first_read kind maxval n (text ++ rest) here more.1, more.2)

-- ---- rows that are spelled are said

-- the messages of rows, of the image's end and of the stream's end, without a fault
abbrev pub rows_and_ends : List (List ℕ) → Said
rows_and_ends rows = record { messages = map Row rows ++ ImageEnd ∷ StreamEnd ∷ []; fault = None }

-- a last row that is read, with what may follow it
last_row_is_read : (s : Shape) (text row rest : List ℕ) → in_turn (plain_sample s.kind s.maxval) (row_length s) text ≡ Ok (row, rest) → begins_apart rest ≡ true
    → last_plain_row s text ≡ Ok (row, rest)
unfolding last_plain_row plain_row after_last_item
last_row_is_read s text row rest e apart =
    ap (λ (r : Result (List ℕ × List ℕ) InputFault). r >>= λ x. after_last_item x.1 >>= λ y. Ok (x.0, y)) e
    ∙ ap (λ (t : Bool). (if t then Ok rest else Err BadSample) >>= λ y. done (row, y)) apart

-- a row that is read
row_is_read : (s : Shape) (text : List ℕ) {found : List ℕ × List ℕ} → in_turn (plain_sample s.kind s.maxval) (row_length s) text ≡ Ok found
    → plain_row s text ≡ Ok found
unfolding plain_row
row_is_read s text e = e

-- no samples are spelled by nothing
nothing_left : (kind : Kind) (text : List ℕ) {samples : List ℕ} → samples ≡ [] → SpellsPlainSamples kind text samples → text ≡ []
nothing_left kind text e s = subst (SpellsPlainSamples kind text) e s

-- a row of a plain raster is a plain one
pub row_at_plain : (format : Format) (s : Shape) (n : ℕ) (text : List ℕ) → is_plain_form format.form ≡ true → row_at format s n text ≡ row_in_form true s n text
row_at_plain format s n text plain = ap (λ (b : Bool). row_in_form b s n text) plain

-- a plain row whose samples are read in turn
plain_row_by : (s : Shape) (n : ℕ) (text row left : List ℕ) → in_turn (plain_sample s.kind s.maxval) (row_length s) text ≡ Ok (row, left)
    → (n ≡ 0 → begins_apart left ≡ true) → row_in_form true s n text ≡ Ok (row, left)
plain_row_by s zero text row left e last = last_row_is_read s text row left e (last refl)
plain_row_by s (suc n) text row left e last = row_is_read s text e

-- rows that are spelled are read in turn
pub plain_rows_in_turn : (format : Format) (s : Shape) (rows n : ℕ) (text samples : List ℕ) (more : ℕ) (rest : List ℕ) → is_plain_form format.form ≡ true
    → n ≡ rows + more → length samples ≡ rows * row_length s → SpellsPlainSamples s.kind text samples
    → All (λ sample. sample ≤ s.maxval) samples → (0 < rows → MayFollowSample s.kind rest) → (0 < rows → more ≡ 0 → begins_apart rest ≡ true)
    → RowsRead format s (cut_rows rows (row_length s) samples) n (text ++ rest) more rest
plain_rows_in_turn format s zero n text samples more rest plain count size spelled range follows last =
    let none : samples ≡ [] = nil_from_length samples (size ∙ zero-mul (row_length s)) in
    (omega arith, ap (λ (t : List ℕ). t ++ rest) (nothing_left s.kind text none spelled))
plain_rows_in_turn format s (suc rows) zero text samples more rest plain count size spelled range follows last = absurd (omega arith)
plain_rows_in_turn format s (suc rows) (suc n) text samples more rest plain count size spelled range follows last =
    let each : ℕ = row_length s in
    let total : length samples ≡ rows * each + each = size ∙ suc-mul rows each in
    let r = spelled_samples_are_read s.kind s.maxval each text samples rest (omega arith) spelled range (follows (omega arith)) in
    let left : length (drop each samples) ≡ rows * each = omega (arith, length-drop each samples) in
    let ends : n ≡ 0 → begins_apart (r.0 ++ rest) ≡ true = λ z.
    let none : drop each samples ≡ [] = nil_from_length (drop each samples) (left ∙ ap (λ (k : ℕ). k * each) (let no_more : rows ≡ 0 = omega arith in no_more)
    ∙ zero-mul each) in
    ap (λ (t : List ℕ). begins_apart (t ++ rest)) (nothing_left s.kind r.0 none r.2) ∙ last (omega arith) (omega arith) in (
      r.0 ++ rest,
      row_at_plain format s n (text ++ rest) plain ∙ plain_row_by s n (text ++ rest) (take each samples) (r.0 ++ rest) r.1 ends,
      plain_rows_in_turn format s rows n r.0 (drop each samples) more rest plain (omega arith) left r.2
          (All-drop (λ sample. sample ≤ s.maxval) each samples range) (λ some. follows (omega arith)) (λ some none. last (omega arith) none),
    )

-- after all rows come the ends
after_rows : (later : List ℕ → Said) (format : Format) (s : Shape) (rows : List (List ℕ)) (rest : List ℕ) → is_plain_form format.form ≡ true
    → after_messages (map Row rows) (rows_said later format s zero rest) ≡ rows_and_ends rows
unfolding rows_said
after_rows later format s [] rest plain = ap (λ (p : Bool). then_said ImageEnd (end_said later p rest)) plain
after_rows later format s (row ∷ rows) rest plain = ap (then_said (Row row)) (after_rows later format s rows rest plain)

-- of a raster that spells an image the rows are said, and the ends
pub spelled_plain_is_said : (later : List ℕ → Said) (format : Format) {raster : List ℕ} (rest : List ℕ) {image : Image} → is_plain_form format.form ≡ true
    → image.head.shape.kind ≡ format.kind → 0 < image.head.shape.height → SpellsPlain raster image → begins_apart rest ≡ true
    → rows_said later format image.head.shape image.head.shape.height (raster ++ rest) ≡ record {
      messages = map Row (rows_of image) ++ ImageEnd ∷ StreamEnd
          ∷ [];
      fault = None;
    }
spelled_plain_is_said later format {raster} rest {image} plain kind some s apart =
    let shape : Shape = image.head.shape in
    let height : ℕ = shape.height in
    let read = plain_rows_in_turn format shape height height raster image.samples zero rest plain (omega arith) s.sound.count s.samples s.sound.range
    (λ _. apart_follows shape.kind rest apart) (λ _ _. apart) in
    read_rows_are_said later format shape (rows_of image) height (raster ++ rest) zero rest read ∙ after_rows later format shape (rows_of image) rest plain

-- ---- samples that are read are spelled

-- the text spells the samples, and goes on with the rest
abbrev pub SpellsOn : Kind → List ℕ → List ℕ → List ℕ → Type 0
SpellsOn kind text [] rest = text ≡ rest
SpellsOn kind text (sample ∷ samples) rest = (piece : List ℕ) × (left : List ℕ) × (text ≡ piece ++ left) × SpellsPiece kind piece sample
    × MayFollowSample kind left × SpellsOn kind left samples rest

-- samples, and samples in the rest
spells_on_append : (kind : Kind) (text xs middle ys rest : List ℕ) → SpellsOn kind text xs middle → SpellsOn kind middle ys rest
    → SpellsOn kind text (xs ++ ys) rest
spells_on_append kind text [] middle ys rest s t = subst (λ (u : List ℕ). SpellsOn kind u ys rest) (sym s) t
spells_on_append kind text (x ∷ xs) middle ys rest s t = (s.0, s.1, s.2, s.3, s.4, spells_on_append kind s.1 xs middle ys rest s.5 t)

-- the prefix of the text spells the samples alone
pub spelled_prefix : (kind : Kind) (text samples rest : List ℕ) → SpellsOn kind text samples rest → (prefix : List ℕ) × (text ≡ prefix ++ rest)
    × SpellsPlainSamples kind prefix samples
spelled_prefix kind text [] rest s = ([], s, refl)
spelled_prefix kind text (sample ∷ samples) rest s =
    let more = spelled_prefix kind s.1 samples rest s.5 in
    let whole : text ≡ (s.0 ++ more.0) ++ rest = s.2 ∙ ap (λ (t : List ℕ). s.0 ++ t) more.1 ∙ sym (append_assoc s.0 more.0 rest) in
    let follows : MayFollowSample kind more.0 = follows_less kind more.0 rest (subst (MayFollowSample kind) more.1 s.4) in
    (s.0 ++ more.0, whole, (s.0, more.0, refl, s.3, follows, more.2))

-- samples that were read, and what they were read of
pub record IsRead (kind : Kind) (maxval n : ℕ) (text : List ℕ) (found : List ℕ × List ℕ) : Type 0 where
  pub count : length found.0 ≡ n
  pub range : All (IsInRange kind maxval) found.0
  pub spelled : SpellsOn kind text found.0 found.1

pub read_samples_are_spelled : {kind : Kind} {maxval : ℕ} (n : ℕ) (text : List ℕ) (found : List ℕ × List ℕ)
    → in_turn (plain_sample kind maxval) n text ≡ Ok found → IsRead kind maxval n text found
unfolding in_turn
read_samples_are_spelled {kind} {maxval} zero text found e =
    let none : IsRead kind maxval zero text ([], text) = record { count = refl; range = All-nil (IsInRange kind maxval); spelled = refl } in
    subst (IsRead kind maxval zero text) (ok_is ([], text) found e) none
read_samples_are_spelled {kind} {maxval} (suc n) text found e =
    let a = bind_ok (plain_sample kind maxval text) (λ first. in_turn (plain_sample kind maxval) n first.1 >>= λ more. Ok (first.0 ∷ more.0, more.1)) e in
    let sample : ℕ = a.0.0 in
    let left : List ℕ = a.0.1 in
    let b = bind_ok (in_turn (plain_sample kind maxval) n left) (λ more. Ok (sample ∷ more.0, more.1)) a.2 in
    let s = read_piece_is_spelled kind maxval text left sample a.1 in
    let more = read_samples_are_spelled n left b.0 b.1 in
    let here : IsRead kind maxval (suc n) text (sample ∷ b.0.0, b.0.1) = record {
      count = ap suc more.count;
      range = All-cons (IsInRange kind maxval) sample b.0.0 s.4 more.range;
      spelled = (s.0, left, s.1, s.2, s.3, more.spelled);
    } in
    subst (IsRead kind maxval (suc n) text) (ok_is (sample ∷ b.0.0, b.0.1) found b.2) here

-- ---- rows that are said are spelled

pub read_row : (s : Shape) {text : List ℕ} {row : List ℕ × List ℕ} → plain_row s text ≡ Ok row → IsRead s.kind s.maxval (row_length s) text row
unfolding plain_row
read_row s {text} {row} e = read_samples_are_spelled (row_length s) text row e

read_last_row : (s : Shape) {text : List ℕ} {row : List ℕ × List ℕ} → last_plain_row s text ≡ Ok row
    → IsRead s.kind s.maxval (row_length s) text row × (begins_apart row.1 ≡ true)
unfolding last_plain_row after_last_item
read_last_row s {text} {row} e =
    let a = bind_ok (plain_row s text) (λ x. after_last_item x.1 >>= λ y. Ok (x.0, y)) e in
    let b = bind_ok (after_last_item a.0.1) (λ y. Ok (a.0.0, y)) a.2 in
    let c = if_ok (begins_apart a.0.1) a.0.1 b.0 BadSample b.1 in
    let same : a.0 ≡ row = ap (λ (t : List ℕ). (a.0.0, t)) c.1 ∙ ok_is (a.0.0, b.0) row b.2 in
    (subst (IsRead s.kind s.maxval (row_length s) text) same (read_row s a.1), subst (λ (f : List ℕ × List ℕ). begins_apart f.1 ≡ true) same c.0)

-- a plain row that was read, and what follows the last one
pub plain_row_is_read : (s : Shape) (n : ℕ) {text : List ℕ} {found : List ℕ × List ℕ} → row_in_form true s n text ≡ Ok found
    → IsRead s.kind s.maxval (row_length s) text found × (n ≡ 0 → begins_apart found.1 ≡ true)
plain_row_is_read s zero e = let r = read_last_row s e in (r.0, λ last. r.1)
plain_row_is_read s (suc n) e = (read_row s e, λ last. absurd (omega arith))

pub plain_rows_are_read : (format : Format) (s : Shape) (rows : List (List ℕ)) (n : ℕ) (text : List ℕ) (more : ℕ) (rest : List ℕ)
    → is_plain_form format.form ≡ true → RowsRead format s rows n text more rest
    → IsRead s.kind s.maxval (length rows * row_length s) text (concat rows, rest)
plain_rows_are_read format s [] n text more rest plain read =
    record { count = sym (zero-mul (row_length s)); range = All-nil (IsInRange s.kind s.maxval); spelled = read.1 }
plain_rows_are_read format s (row ∷ rows) zero text more rest plain read = absurd read
plain_rows_are_read format s (row ∷ rows) (suc n) text more rest plain read =
    let first = (plain_row_is_read s n (sym (row_at_plain format s n text plain) ∙ read.1)).0 in
    let others = plain_rows_are_read format s rows n read.0 more rest plain read.2 in
    record {
      count = omega (arith, length-append row (concat rows), first.count, others.count, suc-mul (length rows) (row_length s));
      range = All-append (IsInRange s.kind s.maxval) row (concat rows) first.range others.range;
      spelled = spells_on_append s.kind text row read.0 (concat rows) rest first.spelled others.spelled;
    }

-- after the last row of a plain raster the text ends, or white space or # follows
pub last_row_ends : (format : Format) (s : Shape) (rows : List (List ℕ)) (n : ℕ) (text : List ℕ) {more : ℕ} (rest : List ℕ)
    → is_plain_form format.form ≡ true → RowsRead format s rows n text more rest → 0 < length rows → more ≡ 0 → begins_apart rest ≡ true
last_row_ends format s [] n text rest plain read some last = absurd (omega arith)
last_row_ends format s (row ∷ rows) zero text rest plain read some last = absurd read
last_row_ends format s (row ∷ []) (suc n) text {more} rest plain read some last =
    let first = plain_row_is_read s n (sym (row_at_plain format s n text plain) ∙ read.1) in
    let none : n ≡ more = read.2.0 in
    sym (ap begins_apart read.2.1) ∙ first.1 (omega arith)
last_row_ends format s (row ∷ next ∷ rows) (suc n) text rest plain read some last = last_row_ends format s (next ∷ rows) n read.0 rest plain read.2
    (omega arith) last

-- a sample in its kind's range is up to the maxval
range_by : (kind : Kind) (depth maxval : ℕ) (tuple_type : List ℕ) (sample : ℕ) → Suits kind depth maxval tuple_type → IsInRange kind maxval sample
    → sample ≤ maxval
range_by Bit depth maxval tuple_type sample suits h = let one : maxval ≡ 1 = suits.1 in omega (arith, h)
range_by Gray depth maxval tuple_type sample suits h = h
range_by Color depth maxval tuple_type sample suits h = h
range_by Pam depth maxval tuple_type sample suits h = h

-- samples that were read as a row are a row of a head's shape
samples_are_row : {head : HeadValue} {text : List ℕ} {row : List ℕ × List ℕ} → IsHead head
    → IsRead head.shape.kind head.shape.maxval (row_length head.shape) text row → IsRowOf head.shape row.0
samples_are_row {head} {row} h r =
    let s : Shape = head.shape in
    record {
      count = r.count;
      range = All-weaker (IsInRange s.kind s.maxval) (λ sample. sample ≤ s.maxval)
          (λ sample i. range_by s.kind s.depth s.maxval head.tuple_type sample h.suits i) row.0 r.range;
    }

-- a plain row that was read is a row of the head's shape
pub plain_row_is_row : {head : HeadValue} (text : List ℕ) {row : List ℕ × List ℕ} → IsHead head → plain_row head.shape text ≡ Ok row
    → IsRowOf head.shape row.0
plain_row_is_row {head} text h e = samples_are_row h (read_row head.shape e)

pub last_plain_row_is_row : {head : HeadValue} (text : List ℕ) {row : List ℕ × List ℕ} → IsHead head → last_plain_row head.shape text ≡ Ok row
    → IsRowOf head.shape row.0
last_plain_row_is_row {head} text h e = samples_are_row h (read_last_row head.shape e).0

-- a raster whose rows are said without a fault spells the image of these rows, and what may follow it
pub said_plain_is_spelled : (later : List ℕ → Said) (format : Format) {head : HeadValue} (text : List ℕ) → is_plain_form format.form ≡ true
    → head.shape.kind ≡ format.kind → IsHead head → 0 < head.shape.height → (rows_said later format head.shape head.shape.height text).fault ≡ None
    → (image : Image) × (raster : List ℕ) × (rest : List ℕ) × (text ≡ raster ++ rest) × (image.head ≡ head) × SpellsPlain raster image × (begins_apart rest ≡
    true) × ((rows_said later format head.shape head.shape.height text).messages ≡ map Row (rows_of image) ++ ImageEnd ∷ StreamEnd ∷ [])
said_plain_is_spelled later format {head} text plain kind h some e =
    let s : Shape = head.shape in
    let r = all_read format s.height text in
    let none : r.more ≡ zero = no_more_to_come later format s r.rows s.height text r.more r.rest r.read r.stop e in
    let read = subst (λ (k : ℕ). RowsRead format s r.rows s.height text k r.rest) none r.read in
    let is = plain_rows_are_read format s r.rows s.height text zero r.rest plain read in
    let height : length r.rows ≡ s.height = omega (arith, rows_count format s r.rows s.height text zero r.rest read) in
    let apart = last_row_ends format s r.rows s.height text r.rest plain read (omega arith) refl in
    let samples : List ℕ = concat r.rows in
    let rest : List ℕ = r.rest in
    let f = spelled_prefix s.kind text samples rest is.spelled in
    let range : All (λ sample. sample ≤ s.maxval) samples =
    All-weaker (IsInRange s.kind s.maxval) (λ sample. sample ≤ s.maxval) (λ sample i. range_by s.kind s.depth s.maxval head.tuple_type sample h.suits i) samples
    is.range in
    let image : Image = record { head = head; samples = samples } in
    let spelled : SpellsPlain f.0 image =
    record { sound = record { head = h; count = is.count ∙ ap (λ (n : ℕ). n * row_length s) height; range = range }; samples = f.2 } in
    let said = ap (rows_said later format s s.height) f.1 ∙ spelled_plain_is_said later format rest plain kind some spelled apart in
    (image, f.0, rest, f.1, refl, spelled, apart, ap (λ (x : Said). x.messages) said)
