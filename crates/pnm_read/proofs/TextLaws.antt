-- What a text spells is what is said of it, and it spells one list of images or has a fault.
use Rattle.pnm_read.proofs.Words.{is_plain_form, ◌≡◌, ◌↔◌, ◌⊎◌, ℕ, zero, suc, ◌+◌, ◌<◌, ◌≤◌, Bool, true, false, List, [], ◌∷◌, ◌++◌, length, map, Option, Some}
use Rattle.pnm_read.proofs.Words.{None, Result, Ok, Err, inl, inr, refl, sym, ap, subst, ◌∙◌, append_assoc, arith, length-append, both_ways, Message, Begin}
use Rattle.pnm_read.proofs.Words.{Row, ImageEnd, HeadValue, Image, IsImage, AreImages, rows_of, messages_of_image, messages_of_stream, is_stream_of}
use Rattle.pnm_read.proofs.Words.{stream_is_messages, stream_is_lawful, stream_ends, InputFault, Format, SpellsHeader, SpellsRaw, SpellsPlain, SpellsRasterBy}
use Rattle.pnm_read.proofs.Words.{SpellsImage, SpellsRawImage, SpellsRawImages, SpellsPlainAlone, Spells, Said, then_said, ends_stream, format_at, head_at}
use Rattle.pnm_read.proofs.Words.{rows_said, head_said, format_said, later_said, said_of, fault_of, AreSaid, SpellsOnly, IsAtFault}
use Rattle.pnm_read.specs.Said.{image_said, text_said}
use Rattle.pnm_read.proofs.ReadHeaderLaws.{spelled_head, read_header_is_spelled, header_has_bytes}
use Rattle.pnm_read.proofs.SpelledHeaders.{spelled_header_is_read}
use Rattle.pnm_read.proofs.PlainLaws.{rows_and_ends, spelled_plain_is_said, said_plain_is_spelled}
use Rattle.pnm_read.proofs.RawLaws.{rows_then, spelled_raw_is_said, said_raw_is_spelled}
use Rattle.pnm_read.proofs.LaterLaws.{later_is_raw, later_said-nothing, later_said-next}

-- ---- what is spelled is said

-- the messages of images, without a fault
abbrev says_images : List Image → Said
says_images images = record { messages = messages_of_stream images; fault = None }

-- the messages of an image, and then what is said
abbrev pub image_then : Image → Said → Said
image_then image s = record { messages = messages_of_image image ++ s.messages; fault = s.fault }

-- after its head come an image's rows and its end
after_head : (image : Image) (s : Said) → then_said (Begin image.head) (rows_then (rows_of image) s) ≡ image_then image s
after_head image s = ap (λ (l : List Message). record { messages = Begin image.head ∷ l; fault = s.fault })
    (sym (append_assoc (map Row (rows_of image)) (ImageEnd ∷ []) s.messages))

-- of a text that begins with the header of an image, its head is said, and then the rows
head_is_said : (later : List ℕ → Said) (is_first : Bool) (format : Format) (image : Image) (header rest : List ℕ)
    → (is_plain_form format.form ≡ true → is_first ≡ true) → SpellsHeader header format image.head
    → image_said later is_first (header ++ rest) ≡ then_said (Begin image.head) (rows_said later format image.head.shape image.head.shape.height rest)
unfolding image_said
head_is_said later is_first format image header rest first h =
    let read = spelled_header_is_read header rest format image.head is_first first h in
    ap (format_said later) read.1 ∙ ap (head_said later format) read.2

-- of a text that begins with a raw image its messages are said, and then what follows
pub raw_image_is_said : (later : List ℕ → Said) (is_first : Bool) (text rest : List ℕ) (image : Image) → SpellsRawImage text image
    → image_said later is_first (text ++ rest) ≡ image_then image (later rest)
raw_image_is_said later is_first text rest image s =
    let format : Format = s.0 in
    let spelled = s.2 in
    let raster : SpellsRaw spelled.raster image = subst (λ (p : Bool). SpellsRasterBy p spelled.raster image) s.1 spelled.raster_is in
    ap (image_said later is_first) (ap (λ (t : List ℕ). t ++ rest) spelled.whole ∙ append_assoc spelled.header spelled.raster rest)
    ∙ head_is_said later is_first format image spelled.header (spelled.raster ++ rest) (λ plain. absurd (both_ways (is_plain_form format.form) s.1 plain))
    spelled.header_is
    ∙ ap (then_said (Begin image.head)) (spelled_raw_is_said later format rest s.1 raster)
    ∙ after_head image (later rest)

-- a raw image has some bytes
pub raw_image_has_bytes : (text : List ℕ) (image : Image) → SpellsRawImage text image → 0 < length text
raw_image_has_bytes text image s =
    let spelled = s.2 in
    let some = header_has_bytes spelled.header s.0 image.head spelled.header_is in
    let count : length text ≡ length spelled.header + length spelled.raster = ap (λ (t : List ℕ). length t) spelled.whole
    ∙ length-append spelled.header spelled.raster in
    omega arith

-- of raw images in turn the messages are said
raw_images_are_said : (text : List ℕ) (images : List Image) → SpellsRawImages text images → later_said text ≡ says_images images
raw_images_are_said text [] s = ap later_said s ∙ later_said-nothing
raw_images_are_said text (image ∷ images) s =
    let some = raw_image_has_bytes s.0 image s.3 in
    let count : length text ≡ length s.0 + length s.1 = ap (λ (t : List ℕ). length t) s.2 ∙ length-append s.0 s.1 in
    later_said-next text (omega arith) ∙ ap (image_said later_said false) s.2 ∙ raw_image_is_said later_said false s.0 s.1 image s.3
    ∙ ap (image_then image) (raw_images_are_said s.1 images s.4)

raw_text_is : (text : List ℕ) (images : List Image) → 0 < length images → SpellsRawImages text images → text_said text ≡ says_images images
unfolding text_said
raw_text_is text [] some s = absurd (omega arith)
raw_text_is text (image ∷ images) some s =
    ap (image_said later_said true) s.2 ∙ raw_image_is_said later_said true s.0 s.1 image s.3 ∙ ap (image_then image) (raw_images_are_said s.1 images s.4)

-- the messages of one image are its rows and the ends, after its head
one_image : (image : Image) → then_said (Begin image.head) (rows_and_ends (rows_of image)) ≡ says_images (image ∷ [])
one_image image = after_head image ends_stream

plain_text_is : {text : List ℕ} {images : List Image} → SpellsPlainAlone text images → text_said text ≡ says_images images
unfolding text_said
plain_text_is s =
    let image : Image = s.image in
    let format : Format = s.image_is.0 in
    let spelled = s.image_is.2 in
    let facts = spelled_head spelled.header spelled.header_is in
    let raster : SpellsPlain spelled.raster image = subst (λ (p : Bool). SpellsRasterBy p spelled.raster image) s.image_is.1 spelled.raster_is in
    ap (image_said later_said true) (s.whole ∙ ap (λ (t : List ℕ). t ++ s.rest) spelled.whole ∙ append_assoc spelled.header spelled.raster s.rest)
    ∙ head_is_said later_said true format image spelled.header (spelled.raster ++ s.rest) (λ plain. refl) spelled.header_is
    ∙ ap (then_said (Begin image.head)) (spelled_plain_is_said later_said format s.rest s.image_is.1 facts.kind facts.rows raster s.rest_is)
    ∙ one_image image ∙ ap says_images (sym s.one)

-- all that is said of a text that spells images
spelled_text_is : (text : List ℕ) (images : List Image) → Spells text images → text_said text ≡ says_images images
spelled_text_is text images (inl s) = raw_text_is text images s.0 s.1
spelled_text_is text images (inr s) = plain_text_is s

-- of a text that spells images their messages are said, without a fault
pub spelled_text_is_said : (text : List ℕ) (images : List Image) → Spells text images → (said_of text ≡ messages_of_stream images) × (fault_of text ≡ None)
spelled_text_is_said text images s =
    let e = spelled_text_is text images s in
    (ap (λ (x : Said). x.messages) e, ap (λ (x : Said). x.fault) e)

-- ---- what is said is spelled

-- a raw image that a text begins with, and what follows, which has this fault or none
pub record RawAndRest (later : List ℕ → Said) (text : List ℕ) (fault : Option InputFault) : Type 0 where
  pub image : Image
  pub first : List ℕ
  pub rest : List ℕ
  pub whole : text ≡ first ++ rest
  pub image_is : SpellsRawImage first image
  pub fault_is : (later rest).fault ≡ fault

-- a plain image, and what may follow it
abbrev IsPlainAlone : List ℕ → Type 0
IsPlainAlone text = (images : List Image) × SpellsPlainAlone text images

-- a header, and the raster that was read after it
pub image_of_parts : (text rest header raster : List ℕ) (format : Format) (head : HeadValue) (image : Image) → text ≡ header ++ raster
    → SpellsHeader header format head → image.head ≡ head → SpellsRasterBy (is_plain_form format.form) raster image → SpellsImage text format image
image_of_parts text rest header raster format head image whole h same r = record {
  header = header;
  raster = raster;
  whole = whole;
  header_is = subst (SpellsHeader header format) (sym same) h;
  raster_is = r;
}

module _ {text : List ℕ} (header after : List ℕ) (format : Format) (head : HeadValue) where
  raw_raster_is_spelled : {later : List ℕ → Said} → is_plain_form format.form ≡ false → text ≡ header ++ after → SpellsHeader header format head
      → (rows_said later format head.shape head.shape.height after).fault ≡ None → RawAndRest later text None
  raw_raster_is_spelled {later} raw whole h e =
      let facts = spelled_head header h in
      let r = said_raw_is_spelled later format after raw facts.sound e in
      let image : Image = r.0 in
      let raster : List ℕ = r.1 in
      let is = image_of_parts (header ++ raster) r.2 header raster format head image refl h r.4
      (subst (λ (p : Bool). SpellsRasterBy p raster image) (sym raw) r.5) in
      record {
        image = image;
        first = header ++ raster;
        rest = r.2;
        whole = whole ∙ ap (λ (t : List ℕ). header ++ t) r.3 ∙ sym (append_assoc header raster r.2);
        image_is = (format, raw, is);
        fault_is = r.6;
      }

  plain_raster_is_spelled : (later : List ℕ → Said) → is_plain_form format.form ≡ true → text ≡ header ++ after → SpellsHeader header format head
      → (rows_said later format head.shape head.shape.height after).fault ≡ None → IsPlainAlone text
  plain_raster_is_spelled later plain whole h e =
      let facts = spelled_head header h in
      let r = said_plain_is_spelled later format after plain facts.kind facts.sound facts.rows e in
      let image : Image = r.0 in
      let raster : List ℕ = r.1 in
      let is = image_of_parts (header ++ raster) r.2 header raster format head image refl h r.4
      (subst (λ (p : Bool). SpellsRasterBy p raster image) (sym plain) r.5) in (
        image ∷ [],
        record {
          image = image;
          first = header ++ raster;
          rest = r.2;
          one = refl;
          whole = whole ∙ ap (λ (t : List ℕ). header ++ t) r.3 ∙ sym (append_assoc header raster r.2);
          image_is = (format, plain, is);
          rest_is = r.6;
        },
      )

  raster_is_spelled : (is_plain : Bool) (later : List ℕ → Said) → is_plain_form format.form ≡ is_plain → text ≡ header ++ after
      → SpellsHeader header format head → (rows_said later format head.shape head.shape.height after).fault ≡ None
      → ((is_plain_form format.form ≡ false) × RawAndRest later text None) ⊎ ((is_plain_form format.form ≡ true) × IsPlainAlone text)
  raster_is_spelled false later plain whole h e = inl (plain, raw_raster_is_spelled plain whole h e)
  raster_is_spelled true later plain whole h e = inr (plain, plain_raster_is_spelled later plain whole h e)

-- where an image is said without a fault, a format was read
sound_format : (later : List ℕ → Said) (found : Result (Format × List ℕ) InputFault) → (format_said later found).fault ≡ None → (x : Format × List ℕ)
    × (found ≡ Ok x) × ((head_said later x.0 (head_at x.0 x.1)).fault ≡ None)
sound_format later (Ok x) e = (x, refl, e)
sound_format later (Err fault) e = absurd cc

-- where an image of a format is said without a fault, a head was read
sound_head : (later : List ℕ → Said) (format : Format) (found : Result (HeadValue × List ℕ) InputFault) → (head_said later format found).fault ≡ None
    → (x : HeadValue × List ℕ) × (found ≡ Ok x) × ((rows_said later format x.0.shape x.0.shape.height x.1).fault ≡ None)
sound_head later format (Ok x) e = (x, refl, e)
sound_head later format (Err fault) e = absurd cc

-- an image that is said without a fault is spelled: a raw one and a rest, or a plain one
image_is_spelled : (later : List ℕ → Said) (is_first : Bool) (text : List ℕ) → (image_said later is_first text).fault ≡ None
    → (x : Format × List ℕ) × (format_at is_first text ≡ Ok x)
    × (((is_plain_form x.0.form ≡ false) × RawAndRest later text None) ⊎ ((is_plain_form x.0.form ≡ true) × IsPlainAlone text))
unfolding image_said
image_is_spelled later is_first text e =
    let found = sound_format later (format_at is_first text) e in
    let format : Format = found.0.0 in
    let after : List ℕ = found.0.1 in
    let read = sound_head later format (head_at format after) found.2 in
    let header = read_header_is_spelled is_first text after read.0.1 format read.0.0 found.1 read.1 in
    (found.0, found.1, raster_is_spelled header.0 read.0.1 format read.0.0 (is_plain_form format.form) later refl header.1 header.2 read.2)

-- what is said after a raw image without a fault are raw images
later_is_spelled : (most : ℕ) (text : List ℕ) → length text ≤ most → (later_said text).fault ≡ None → (images : List Image) × SpellsRawImages text images
later_is_spelled most [] le e = ([], refl)
later_is_spelled zero (b ∷ text) le e = absurd (omega arith)
later_is_spelled (suc most) (b ∷ text) le e =
    let whole : List ℕ = b ∷ text in
    let found = image_is_spelled later_said false whole (sym (ap (λ (s : Said). s.fault) (later_said-next whole (omega arith))) ∙ e) in
    elim found.2 [
      | inl r ↦
          let raw : RawAndRest later_said whole None = r.1 in
          let some = raw_image_has_bytes raw.first raw.image raw.image_is in
          let count : length whole ≡ length raw.first + length raw.rest = ap (λ (t : List ℕ). length t) raw.whole ∙ length-append raw.first raw.rest in
          let more = later_is_spelled most raw.rest (omega arith) raw.fault_is in
          (raw.image ∷ more.0, (raw.first, raw.rest, raw.whole, raw.image_is, more.1))
      | inr p ↦ absurd (both_ways (is_plain_form found.0.0.form) (later_is_raw whole found.1) p.0)
    ]

-- a text without a fault spells images
sound_text_is_spelled : (text : List ℕ) → fault_of text ≡ None → (images : List Image) × Spells text images
unfolding text_said
sound_text_is_spelled text e =
    let found = image_is_spelled later_said true text e in
    elim found.2 [
      | inl r ↦
          let raw : RawAndRest later_said text None = r.1 in
          let more = later_is_spelled (length raw.rest) raw.rest (omega arith) raw.fault_is in
          (raw.image ∷ more.0, inl (omega arith, (raw.first, raw.rest, raw.whole, raw.image_is, more.1)))
      | inr p ↦ (p.1.0, inr p.1.1)
    ]

-- a text without a fault spells the images whose messages are said of it
pub said_text_is_spelled : (text : List ℕ) → fault_of text ≡ None → (images : List Image) × Spells text images × (said_of text ≡ messages_of_stream images)
said_text_is_spelled text e =
    let s = sound_text_is_spelled text e in
    (s.0, s.1, (spelled_text_is_said text s.0 s.1).0)

-- ---- one list of images, or one fault

-- a raster spells an image
raster_is_of_image : (is_plain : Bool) (raster : List ℕ) {image : Image} → SpellsRasterBy is_plain raster image → IsImage image
raster_is_of_image true raster s = s.sound
raster_is_of_image false raster s = s.sound

spelled_is_image : {text : List ℕ} {format : Format} {image : Image} → SpellsImage text format image → IsImage image
spelled_is_image {format} s = raster_is_of_image (is_plain_form format.form) s.raster s.raster_is

raw_are_images : (text : List ℕ) (images : List Image) → SpellsRawImages text images → AreImages images
raw_are_images text [] s = tt
raw_are_images text (image ∷ images) s = (spelled_is_image s.3.2, raw_are_images s.1 images s.4)

-- what a text spells are images
pub spelled_are_images : (text : List ℕ) (images : List Image) → Spells text images → AreImages images
spelled_are_images text images (inl s) = raw_are_images text images s.1
spelled_are_images text images (inr s) = subst AreImages (sym s.one) (spelled_is_image s.image_is.2, tt)

-- lists of images that have the same messages are the same
pub images_of_messages_are_one : (images others : List Image) → AreImages images → AreImages others → messages_of_stream images ≡ messages_of_stream others
    → others ≡ images
images_of_messages_are_one images others are others_are same =
    let stream = is_stream_of (messages_of_stream images) (stream_is_messages images are) (stream_is_lawful images are) (stream_ends images) in
    stream.1.only others others_are same ∙ sym (stream.1.only images are refl)

-- a text spells no two lists of images
spelled_images_are_one : (text : List ℕ) (images others : List Image) → Spells text images → Spells text others → others ≡ images
spelled_images_are_one text images others s o =
    images_of_messages_are_one images others (spelled_are_images text images s) (spelled_are_images text others o)
    (sym (spelled_text_is_said text images s).0 ∙ (spelled_text_is_said text others o).0)

-- the images that a text spells are said of it
pub are_said : (text : List ℕ) (images : List Image) → Spells text images → AreSaid text images
are_said text images s =
    let said = spelled_text_is_said text images s in
    record { sound = said.1; images_are = spelled_are_images text images s; messages = said.0 }

-- the images that are said of a text are spelled by it
said_are_spelled : {text : List ℕ} {images : List Image} → AreSaid text images → Spells text images
said_are_spelled {text} {images} said =
    let spelled = said_text_is_spelled text said.sound in
    let same = images_of_messages_are_one images spelled.0 said.images_are (spelled_are_images text spelled.0 spelled.1) (sym said.messages ∙ spelled.2) in
    subst (Spells text) same spelled.1

-- the images that a text spells are those that are said of it
pub spelled_images_are_said : (text : List ℕ) (images : List Image) → Spells text images ↔ AreSaid text images
spelled_images_are_said text images = (are_said text images, said_are_spelled)

-- a text without a fault spells one list of images, and a text with a fault spells none
one_or_fault : (text : List ℕ) (fault : Option InputFault) → fault_of text ≡ fault → ((images : List Image) × SpellsOnly text images)
    ⊎ ((fault : InputFault) × IsAtFault text fault)
one_or_fault text None e =
    let s = sound_text_is_spelled text e in
    inl (s.0, record { spelled = s.1; only = λ others o. spelled_images_are_one text s.0 others s.1 o; sound = e })
one_or_fault text (Some fault) e = inr (fault, record { first = e; not_spelled = λ images s. let none = (spelled_text_is_said text images s).1 in cc })

-- a text spells exactly one list of images and has no fault, or spells none and has a fault
pub one_list_or_one_fault : (text : List ℕ) → ((images : List Image) × SpellsOnly text images) ⊎ ((fault : InputFault) × IsAtFault text fault)
one_list_or_one_fault text = one_or_fault text (fault_of text) refl
