-- What is said of a text before its fault is spelled: the images that ended, and the first rows of one that began.
use Rattle.pnm_read.proofs.Words.{is_plain_form, ◌≡◌, ◌⊎◌, ℕ, zero, suc, ◌+◌, ◌≤◌, Bool, true, false, List, [], ◌∷◌, ◌++◌, length, map, flat_map, Some, None}
use Rattle.pnm_read.proofs.Words.{Result, Ok, Err, inl, inr, refl, sym, ap, subst, ◌∙◌, append_assoc, arith, length-append, both_ways, Shape, Message, Begin}
use Rattle.pnm_read.proofs.Words.{Row, HeadValue, with_height, Image, messages_of_image, InputFault, Format, SpellsHeader, SpellsRawImages, Said, format_at}
use Rattle.pnm_read.proofs.Words.{head_at, row_at, rows_said, head_said, format_said, later_said, said_of, fault_of, MayBegin, SaysFirstRows, SaysNoImage}
use Rattle.pnm_read.proofs.Words.{SaysUnended, SpellsUpToFault}
use Rattle.pnm_read.specs.Said.{image_said, text_said}
use Rattle.pnm_read.proofs.EndSaid.{end_said}
use Rattle.pnm_read.proofs.ReadHeaderLaws.{spelled_head, read_header_is_spelled}
use Rattle.pnm_read.proofs.SpelledHeaders.{spelled_header_is_read}
use Rattle.pnm_read.proofs.PieceLaws.{done, ok_is}
use Rattle.pnm_read.proofs.LaterLaws.{later_is_raw, later_said-nothing, later_said-next}
use Rattle.pnm_read.proofs.TextLaws.{RawAndRest, image_of_parts, raw_image_is_said, raw_image_has_bytes}
use Rattle.pnm_read.proofs.RowsInTurn.{RowsRead, rows_count, stopped_messages, ended_fault, Stops, AllRead, all_read}
use Rattle.pnm_read.proofs.FirstRows.{rows_are_rows, first_of, rows_of-first_of, read_rows_are_spelled, read_rows_begin, no_more_rows}

-- ---- an image

-- an image doesn't end; or a raw one ends, and the fault comes after it
abbrev Stopped : (List ℕ → Said) → Bool → List ℕ → List Message → InputFault → Type 0
Stopped later is_first text messages fault = SaysUnended is_first text messages ⊎ RawAndRest later text (Some fault)

-- what is said of an image whose head was read
abbrev from_head : (List ℕ → Said) → Format → HeadValue → List ℕ → List Message
from_head later format head after = Begin head ∷ (rows_said later format head.shape head.shape.height after).messages

module _ {text : List ℕ} (header after : List ℕ) (format : Format) (head : HeadValue) (rows : List (List ℕ)) (rest : List ℕ) {fault : InputFault} where
  -- a row is at fault after those that were read
  row_stops : (later : List ℕ → Said) {is_first : Bool} (more : ℕ) → MayBegin is_first format → text ≡ header ++ after → SpellsHeader header format head
      → RowsRead format head.shape rows head.shape.height after (suc more) rest → row_at format head.shape more rest ≡ Err fault
      → SaysFirstRows is_first text (from_head later format head after)
  row_stops later more may whole h read e =
      let s : Shape = head.shape in
      let sound = (spelled_head header h).sound in
      let text_said = stopped_messages later format s rows s.height after more rest read e in
      let are = rows_are_rows format rows s.height after (suc more) rest sound read in
      record {
        format = format;
        head = head;
        first = first_of head rows;
        may_begin = may;
        begins = record {
          header = header;
          rest = after;
          whole = whole;
          header_is = h;
          rows_are = read_rows_begin rows (suc more) rest sound read;
          most = λ others b. no_more_rows later rows sound text_said b;
          unended = omega (arith, rows_count format s rows s.height after (suc more) rest read);
        };
        said = ap (λ (l : List Message). Begin head ∷ l) (text_said ∙ ap (map Row) (sym (rows_of-first_of head rows are)));
      }

  -- all rows of a raw image were read
  raw_image_ends : {later : List ℕ → Said} → is_plain_form format.form ≡ false → text ≡ header ++ after → SpellsHeader header format head
      → RowsRead format head.shape rows head.shape.height after zero rest → (later rest).fault ≡ Some fault → RawAndRest later text (Some fault)
  raw_image_ends raw whole h read e =
      let s : Shape = head.shape in
      let r = read_rows_are_spelled format zero (spelled_head header h).sound read in
      let image : Image = first_of head rows in
      let height : length rows ≡ s.height = omega (arith, rows_count format s rows s.height after zero rest read) in
      let same : image.head ≡ head = ap (with_height head) height in
      let is = image_of_parts (header ++ r.raster) rest header r.raster format head image refl h same r.raster_is in
      record {
        image = image;
        first = header ++ r.raster;
        rest = rest;
        whole = whole ∙ ap (λ (t : List ℕ). header ++ t) r.whole ∙ sym (append_assoc header r.raster rest);
        image_is = (format, raw, is);
        fault_is = e;
      }

  -- after a plain image there is no fault
  image_ends : (is_plain : Bool) {later : List ℕ → Said} → is_plain_form format.form ≡ is_plain → text ≡ header ++ after → SpellsHeader header format head
      → RowsRead format head.shape rows head.shape.height after zero rest → (end_said later is_plain rest).fault ≡ Some fault
      → RawAndRest later text (Some fault)
  image_ends false raw whole h read e = raw_image_ends raw whole h read e
  image_ends true plain whole h read e = absurd cc

  raster_stops_at : (more : ℕ) (later : List ℕ → Said) (is_first : Bool) → MayBegin is_first format → text ≡ header ++ after
      → SpellsHeader header format head → (rows_said later format head.shape head.shape.height after).fault ≡ Some fault
      → RowsRead format head.shape rows head.shape.height after more rest → Stops format head.shape more rest
      → Stopped later is_first text (from_head later format head after) fault
  raster_stops_at zero later is_first may whole h e read stop =
      inr (image_ends (is_plain_form format.form) refl whole h read (sym (ended_fault later format head.shape rows head.shape.height after rest read) ∙ e))
  raster_stops_at (suc more) later is_first may whole h e read stop =
      inl (inl (Rattle.pnm_read.proofs.FaultPrefixes.row_stops header after format head rows rest later more may whole h read stop.1))

raster_stops : (later : List ℕ → Said) (is_first : Bool) {text : List ℕ} (header after : List ℕ) (format : Format) (head : HeadValue) {fault : InputFault}
    → MayBegin is_first format → text ≡ header ++ after → SpellsHeader header format head
    → (rows_said later format head.shape head.shape.height after).fault ≡ Some fault → Stopped later is_first text (from_head later format head after) fault
raster_stops later is_first header after format head may whole h e =
    let r : AllRead format head.shape head.shape.height after = all_read format head.shape.height after in
    raster_stops_at header after format head r.rows r.rest r.more later is_first may whole h e r.read r.stop

-- a format that is read may begin there
read_may_begin : (is_first : Bool) (text : List ℕ) {found : Format × List ℕ} → format_at is_first text ≡ Ok found → MayBegin is_first found.0
read_may_begin true text e plain = refl
read_may_begin false text {found} e plain = absurd (both_ways (is_plain_form found.0.form) (later_is_raw text e) plain)

-- a header that a text begins with is read
header_is_read : (is_first : Bool) {text : List ℕ} (header rest : List ℕ) (format : Format) (head : HeadValue) → MayBegin is_first format
    → text ≡ header ++ rest → SpellsHeader header format head
    → (after : List ℕ) × (format_at is_first text ≡ done (format, after)) × (head_at format after ≡ done (head, rest))
header_is_read is_first header rest format head may whole h =
    let read = spelled_header_is_read header rest format head is_first may h in
    (read.0, ap (format_at is_first) whole ∙ read.1, read.2)

module _ (later : List ℕ → Said) (is_first : Bool) (text : List ℕ) {fault : InputFault} where
  head_stops : {found : Format × List ℕ} (r : Result (HeadValue × List ℕ) InputFault) → format_at is_first text ≡ Ok found → head_at found.0 found.1 ≡ r
      → (head_said later found.0 r).fault ≡ Some fault → Stopped later is_first text (head_said later found.0 r).messages fault
  head_stops {found} (Err k) e f is =
      let none : SaysNoImage is_first text [] = record {
        said = refl;
        no_header = λ header rest format head may whole h.
            let read = header_is_read is_first header rest format head may whole h in
            let same : found ≡ (format, read.0) = ok_is found (format, read.0) (sym e ∙ read.1) in
            let failed : Err k ≡ done (head, rest) = sym f ∙ ap (λ (x : Format × List ℕ). head_at x.0 x.1) same ∙ read.2 in
            cc;
      } in
      inl (inr none)
  head_stops {found} (Ok head) e f is =
      let header = read_header_is_spelled is_first text found.1 head.1 found.0 head.0 e f in
      raster_stops later is_first header.0 head.1 found.0 head.0 (read_may_begin is_first text e) header.1 header.2 is

  format_stops : (r : Result (Format × List ℕ) InputFault) → format_at is_first text ≡ r → (format_said later r).fault ≡ Some fault
      → Stopped later is_first text (format_said later r).messages fault
  format_stops (Err k) e is =
      let none : SaysNoImage is_first text [] = record {
        said = refl;
        no_header = λ header rest format head may whole h.
            let read = header_is_read is_first header rest format head may whole h in
            let failed : Err k ≡ done (format, read.0) = sym e ∙ read.1 in
            cc;
      } in
      inl (inr none)
  format_stops (Ok found) e is = head_stops (head_at found.0 found.1) e refl is

  -- an image in which the fault is, or a raw image before it
  image_stops : (image_said later is_first text).fault ≡ Some fault → Stopped later is_first text (image_said later is_first text).messages fault
  unfolding image_said
  image_stops e = format_stops (format_at is_first text) refl e

-- ---- images in turn

-- raw images in turn, and an image after them in which the fault is
record StopsLater (text : List ℕ) (messages : List Message) : Type 0 where
  pub images : List Image
  pub prefix : List ℕ
  pub rest : List ℕ
  pub last : List Message
  pub whole : text ≡ prefix ++ rest
  pub ended : SpellsRawImages prefix images
  pub said : messages ≡ flat_map messages_of_image images ++ last
  pub unended : SaysUnended false rest last

-- the text of an image, of more images and of what follows
whole_of_both : {text : List ℕ} (first : List ℕ) {rest : List ℕ} (prefix left : List ℕ) → text ≡ first ++ rest → rest ≡ prefix ++ left
    → text ≡ (first ++ prefix) ++ left
whole_of_both first prefix left e f = e ∙ ap (λ (t : List ℕ). first ++ t) f ∙ sym (append_assoc first prefix left)

-- the messages of an image come before what is said later
said_of_both : (is_first : Bool) {text : List ℕ} {fault : InputFault} (raw : RawAndRest later_said text (Some fault)) (images : List Image)
    (last : List Message) → (later_said raw.rest).messages ≡ flat_map messages_of_image images ++ last
    → (image_said later_said is_first text).messages ≡ flat_map messages_of_image (raw.image ∷ images) ++ last
said_of_both is_first raw images last e =
    let first : List Message = messages_of_image raw.image in
    ap (λ (s : Said). s.messages) (ap (image_said later_said is_first) raw.whole
    ∙ raw_image_is_said later_said is_first raw.first raw.rest raw.image raw.image_is)
    ∙ ap (λ (l : List Message). first ++ l) e ∙ sym (append_assoc first (flat_map messages_of_image images) last)

-- where what is said after a raw image has a fault
later_stops : (most : ℕ) (text : List ℕ) {fault : InputFault} → length text ≤ most → (later_said text).fault ≡ Some fault
    → StopsLater text (later_said text).messages
later_stops most [] {fault} le e = let none : None ≡ Some fault = sym (ap (λ (s : Said). s.fault) later_said-nothing) ∙ e in absurd cc
later_stops zero (b ∷ text) le e = absurd (omega arith)
later_stops (suc most) (b ∷ text) le e =
    let whole : List ℕ = b ∷ text in
    let next = later_said-next whole (omega arith) in
    let messages = ap (λ (s : Said). s.messages) next in
    elim (image_stops later_said false whole (sym (ap (λ (s : Said). s.fault) next) ∙ e)) [
      | inl s ↦ record {
        images = [];
        prefix = [];
        rest = whole;
        last = (later_said whole).messages;
        whole = refl;
        ended = refl;
        said = refl;
        unended = subst (SaysUnended false whole) (sym messages) s;
      }
      | inr raw ↦
          let some = raw_image_has_bytes raw.first raw.image raw.image_is in
          let count : length whole ≡ length raw.first + length raw.rest = ap (λ (t : List ℕ). length t) raw.whole ∙ length-append raw.first raw.rest in
          let more : StopsLater raw.rest (later_said raw.rest).messages = later_stops most raw.rest (omega arith) raw.fault_is in
          record {
            images = raw.image ∷ more.images;
            prefix = raw.first ++ more.prefix;
            rest = more.rest;
            last = more.last;
            whole = whole_of_both raw.first more.prefix more.rest raw.whole more.whole;
            ended = (raw.first, more.prefix, refl, raw.image_is, more.ended);
            said = messages ∙ said_of_both false raw more.images more.last more.said;
            unended = more.unended;
          }
    ]

-- what is said of a text before its fault is spelled
pub said_before_fault_is_spelled : (text : List ℕ) (fault : InputFault) → fault_of text ≡ Some fault → SpellsUpToFault text (said_of text)
unfolding text_said
said_before_fault_is_spelled text fault e =
    elim (image_stops later_said true text e) [
      | inl s ↦ record {
        images = [];
        prefix = [];
        rest = text;
        last = (image_said later_said true text).messages;
        whole = refl;
        ended = refl;
        said = refl;
        unended = s;
      }
      | inr raw ↦
          let more : StopsLater raw.rest (later_said raw.rest).messages = later_stops (length raw.rest) raw.rest (omega arith) raw.fault_is in
          record {
            images = raw.image ∷ more.images;
            prefix = raw.first ++ more.prefix;
            rest = more.rest;
            last = more.last;
            whole = whole_of_both raw.first more.prefix more.rest raw.whole more.whole;
            ended = (raw.first, more.prefix, refl, raw.image_is, more.ended);
            said = said_of_both true raw more.images more.last more.said;
            unended = more.unended;
          }
    ]
