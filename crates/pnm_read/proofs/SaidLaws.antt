-- What is said of a text may come in turn, and its end is said exactly where no fault is.
use Rattle.pnm_read.proofs.Words.{is_plain_form, ◌≡◌, ◌↔◌, ℕ, zero, suc, ◌+◌, Bool, true, false, List, [], ◌∷◌, length, None, Result, Ok, Err, refl, sym, subst}
use Rattle.pnm_read.proofs.Words.{arith, Shape, Inside, HeadValue, IsHead, IsRowOf, IsLawfulFrom, IsLawful, stream_ends, InputFault, Format, Said, row_in_form}
use Rattle.pnm_read.proofs.Words.{row_at, format_at, head_at, head_said, format_said, said_of, fault_of}
use Rattle.pnm_image.specs.Messages.{EndsStream}
use Rattle.pnm_read.specs.Said.{rows_said, image_said, later_said_in}
use Rattle.pnm_read.specs.Said.{later_said, text_said}
use Rattle.pnm_read.proofs.EndSaid.{end_said}
use Rattle.pnm_read.proofs.ReadHeaderLaws.{read_header_is_spelled, spelled_head}
use Rattle.pnm_read.proofs.PlainLaws.{plain_row_is_row, last_plain_row_is_row}
use Rattle.pnm_read.proofs.RowsInTurn.{said_from}
use Rattle.pnm_read.proofs.RawLaws.{raw_row_is_row}
use Rattle.pnm_read.proofs.TextLaws.{said_text_is_spelled}

-- ---- what is said may come in turn

-- a row that was read is a row of the head's shape
pub row_is_row : (is_plain : Bool) {head : HeadValue} (more : ℕ) (text : List ℕ) {found : List ℕ × List ℕ} → IsHead head
    → row_in_form is_plain head.shape more text ≡ Ok found → IsRowOf head.shape found.0
row_is_row false more text h e = raw_row_is_row text h e
row_is_row true zero text h e = last_plain_row_is_row text h e
row_is_row true (suc more) text h e = plain_row_is_row text h e

-- what is said after a raw image may come in turn
abbrev AreLawful : (List ℕ → Said) → Type 0
AreLawful later = (text : List ℕ) → IsLawful (later text).messages

-- the end of the stream may come between images, and so may the next image
end_is_lawful : (later : List ℕ → Said) (is_plain : Bool) (text : List ℕ) → AreLawful later → IsLawful (end_said later is_plain text).messages
end_is_lawful later true text are = (tt, tt)
end_is_lawful later false text are = are text

-- where a row was read, and what is said after it may come, the row may come
row_is_lawful : (later : List ℕ → Said) (format : Format) (s : Shape) (more y : ℕ) (r : Result (List ℕ × List ℕ) InputFault) → suc more + y ≡ s.height
    → ((found : List ℕ × List ℕ) → r ≡ Ok found → IsRowOf s found.0)
    → ((text : List ℕ) → IsLawfulFrom (Inside s (y + 1)) (rows_said later format s more text).messages)
    → IsLawfulFrom (Inside s y) (said_from later format s more r).messages
row_is_lawful later format s more y (Err fault) count row others = tt
row_is_lawful later format s more y (Ok found) count row others = ((omega arith, row found refl), others found.1)

rows_are_lawful : (later : List ℕ → Said) (format : Format) {head : HeadValue} (more y : ℕ) (text : List ℕ) → AreLawful later → IsHead head
    → more + y ≡ head.shape.height → IsLawfulFrom (Inside head.shape y) (rows_said later format head.shape more text).messages
unfolding rows_said
rows_are_lawful later format zero y text are h count = (omega arith, end_is_lawful later (is_plain_form format.form) text are)
rows_are_lawful later format {head} (suc more) y text are h count =
    row_is_lawful later format head.shape more y (row_at format head.shape more text) count (λ found e. row_is_row (is_plain_form format.form) more text h e)
    (λ rest. rows_are_lawful later format more (y + 1) rest are h (omega arith))

-- an image's messages may come where its head keeps the rules of heads
head_is_lawful : (later : List ℕ → Said) (format : Format) (r : Result (HeadValue × List ℕ) InputFault) → AreLawful later
    → ((found : HeadValue × List ℕ) → r ≡ Ok found → IsHead found.0) → IsLawful (head_said later format r).messages
head_is_lawful later format (Err fault) are sound = tt
head_is_lawful later format (Ok found) are sound = (tt, rows_are_lawful later format found.0.shape.height 0 found.1 are (sound found refl) (omega arith))

-- the head of a header that was read
pub read_head_is_header : (is_first : Bool) (text : List ℕ) (found : Format × List ℕ) (head : HeadValue × List ℕ) → format_at is_first text ≡ Ok found
    → head_at found.0 found.1 ≡ Ok head → IsHead head.0
read_head_is_header is_first text found head e h =
    let s = read_header_is_spelled is_first text found.1 head.1 found.0 head.0 e h in
    (spelled_head s.0 s.2).sound

format_is_lawful : (later : List ℕ → Said) (is_first : Bool) (text : List ℕ) (r : Result (Format × List ℕ) InputFault) → AreLawful later
    → format_at is_first text ≡ r → IsLawful (format_said later r).messages
format_is_lawful later is_first text (Err fault) are e = tt
format_is_lawful later is_first text (Ok found) are e =
    head_is_lawful later found.0 (head_at found.0 found.1) are (λ head h. read_head_is_header is_first text found head e h)

image_is_lawful : (later : List ℕ → Said) (is_first : Bool) (text : List ℕ) → AreLawful later → IsLawful (image_said later is_first text).messages
unfolding image_said
image_is_lawful later is_first text are = format_is_lawful later is_first text (format_at is_first text) are refl

later_in_is_lawful : (most : ℕ) → AreLawful (later_said_in most)
unfolding later_said_in
later_in_is_lawful zero [] = (tt, tt)
later_in_is_lawful zero (b ∷ text) = (tt, tt)
later_in_is_lawful (suc most) [] = (tt, tt)
later_in_is_lawful (suc most) (b ∷ text) = image_is_lawful (later_said_in most) false (b ∷ text) (later_in_is_lawful most)

later_is_lawful : AreLawful later_said
unfolding later_said
later_is_lawful text = later_in_is_lawful (length text) text

-- what is said of any text may come in turn
pub said_is_lawful : (text : List ℕ) → IsLawful (said_of text)
unfolding text_said
said_is_lawful text = image_is_lawful later_said true text later_is_lawful

-- ---- the end is said exactly where no fault is

-- where what is said ends the stream, it has no fault
abbrev EndIsSound : (List ℕ → Said) → Type 0
EndIsSound later = (text : List ℕ) → EndsStream (later text).messages → (later text).fault ≡ None

sound_end : (later : List ℕ → Said) (is_plain : Bool) (text : List ℕ) → EndIsSound later → EndsStream (end_said later is_plain text).messages
    → (end_said later is_plain text).fault ≡ None
sound_end later true text sound ends = refl
sound_end later false text sound ends = sound text ends

sound_row : (later : List ℕ → Said) (format : Format) (s : Shape) (more : ℕ) (r : Result (List ℕ × List ℕ) InputFault)
    → ((text : List ℕ) → EndsStream (rows_said later format s more text).messages → (rows_said later format s more text).fault ≡ None)
    → EndsStream (said_from later format s more r).messages → (said_from later format s more r).fault ≡ None
sound_row later format s more (Err fault) others ends = absurd ends
sound_row later format s more (Ok found) others ends = others found.1 ends

sound_rows : (later : List ℕ → Said) (format : Format) (s : Shape) (more : ℕ) (text : List ℕ) → EndIsSound later
    → EndsStream (rows_said later format s more text).messages → (rows_said later format s more text).fault ≡ None
unfolding rows_said
sound_rows later format s zero text sound ends = sound_end later (is_plain_form format.form) text sound ends
sound_rows later format s (suc more) text sound ends =
    sound_row later format s more (row_at format s more text) (λ rest e. sound_rows later format s more rest sound e) ends

sound_head : (later : List ℕ → Said) (format : Format) (r : Result (HeadValue × List ℕ) InputFault) → EndIsSound later
    → EndsStream (head_said later format r).messages → (head_said later format r).fault ≡ None
sound_head later format (Err fault) sound ends = absurd ends
sound_head later format (Ok found) sound ends = sound_rows later format found.0.shape found.0.shape.height found.1 sound ends

sound_format : (later : List ℕ → Said) (r : Result (Format × List ℕ) InputFault) → EndIsSound later → EndsStream (format_said later r).messages
    → (format_said later r).fault ≡ None
sound_format later (Err fault) sound ends = absurd ends
sound_format later (Ok found) sound ends = sound_head later found.0 (head_at found.0 found.1) sound ends

sound_image : (later : List ℕ → Said) (is_first : Bool) (text : List ℕ) → EndIsSound later → EndsStream (image_said later is_first text).messages
    → (image_said later is_first text).fault ≡ None
unfolding image_said
sound_image later is_first text sound ends = sound_format later (format_at is_first text) sound ends

sound_later_in : (most : ℕ) → EndIsSound (later_said_in most)
unfolding later_said_in
sound_later_in zero [] ends = refl
sound_later_in zero (b ∷ text) ends = refl
sound_later_in (suc most) [] ends = refl
sound_later_in (suc most) (b ∷ text) ends = sound_image (later_said_in most) false (b ∷ text) (sound_later_in most) ends

sound_later : EndIsSound later_said
unfolding later_said
sound_later text ends = sound_later_in (length text) text ends

sound_text : (text : List ℕ) → EndsStream (said_of text) → fault_of text ≡ None
unfolding text_said
sound_text text ends = sound_image later_said true text sound_later ends

-- of a text without a fault the end of the stream is said
text_ends : (text : List ℕ) → fault_of text ≡ None → EndsStream (said_of text)
text_ends text e =
    let s = said_text_is_spelled text e in
    subst EndsStream (sym s.2) (stream_ends s.0)

pub end_is_said_without_fault : (text : List ℕ) → EndsStream (said_of text) ↔ (fault_of text ≡ None)
end_is_said_without_fault text = (sound_text text, text_ends text)
