-- What a text's fault can be: neither a failed read nor want of memory.
use Rattle.pnm_read.proofs.Words.{is_plain_form, ◌≡◌, ℕ, zero, suc, ◌*◌, ◌+◌, Bool, true, false, not, ◌&&◌, ◌||◌, if◌then◌else◌, List, [], ◌∷◌, length, take}
use Rattle.pnm_read.proofs.Words.{Some, None, Result, Ok, Err, subst, nat_le, concat, Shape, Kind, Bit, Gray, Color, Pam, HeadValue, row_length, InputFault}
use Rattle.pnm_read.proofs.Words.{TooLong, RasterCut, SampleAboveMaxval, BadSample, ReadFailed, Memory, Format, EndsWith, EndsBefore, SampleWidth, Bits, Bytes}
use Rattle.pnm_read.proofs.Words.{Words, is_apart, begins_apart, ends_in_comment, number_in, is_digit, sample_width_of, ◌>>=◌, piece_from, ends_in_digit}
use Rattle.pnm_read.proofs.Words.{is_complete, decimal_end, is_pixel, pixel_end, pixel_in, sample_item, plain_sample, Said, units_in_row, units_at, row_in_form}
use Rattle.pnm_read.proofs.Words.{row_at, head_said, format_said, format_at, head_at, fault_of, GAP_LIMIT}
use Rattle.pnm_read.specs.Items.{raw_item, decimal_item, pixel_item}
use Rattle.pnm_read.specs.Items.{plain_pixel, plain_decimal, after_last_item}
use Rattle.pnm_read.specs.Said.{in_turn, raw_row, plain_row, last_plain_row, rows_said}
use Rattle.pnm_read.specs.Said.{image_said, later_said_in, later_said, text_said}
use Rattle.pnm_read.proofs.EndSaid.{end_said}
use Rattle.pnm_read.proofs.RowsInTurn.{said_from}
use Rattle.pnm_read.proofs.HeaderFaults.{EndsByText, FailsByText, IsJudgedByText, bind_by_text, when_by_text, piece_by_text, three_by_text, format_by_text}
use Rattle.pnm_read.proofs.HeaderFaults.{head_by_text}

-- ---- rows

-- items in turn fail by a fault of the text, where each does
items_by_text : {A : Type 0} (item : List ℕ → Result (A × List ℕ) InputFault) (n : ℕ) (text : List ℕ) → ((t : List ℕ) → FailsByText (item t))
    → FailsByText (in_turn item n text)
unfolding in_turn
items_by_text item zero text each = tt
items_by_text item (suc n) text each =
    bind_by_text (item text) (λ first. in_turn item n first.1 >>= λ more. Ok (first.0 ∷ more.0, more.1)) (each text)
    (λ first. bind_by_text (in_turn item n first.1) (λ more. Ok (first.0 ∷ more.0, more.1)) (items_by_text item n first.1 each) (λ more. tt))

raw_item_by_text : (sample_width : SampleWidth) (maxval : ℕ) (text : List ℕ) → FailsByText (raw_item sample_width maxval text)
unfolding raw_item
raw_item_by_text Bits maxval [] = tt
raw_item_by_text Bytes maxval [] = tt
raw_item_by_text Words maxval [] = tt
raw_item_by_text Bits maxval (b ∷ text) = tt
raw_item_by_text Bytes maxval (b ∷ text) = when_by_text (nat_le b maxval) (b ∷ [], text) SampleAboveMaxval tt
raw_item_by_text Words maxval (b ∷ []) = tt
raw_item_by_text Words maxval (b ∷ c ∷ text) = when_by_text (nat_le (256 * b + c) maxval) ((256 * b + c) ∷ [], text) SampleAboveMaxval tt

raw_row_by_text : (s : Shape) (text : List ℕ) → FailsByText (raw_row s text)
unfolding raw_row
raw_row_by_text s text =
    let sample_width : SampleWidth = sample_width_of s.kind s.maxval in
    bind_by_text (units_at s text) (λ units. Ok (take (row_length s) (concat units.0), units.1))
    (items_by_text (raw_item sample_width s.maxval) (units_in_row sample_width s) text (raw_item_by_text sample_width s.maxval)) (λ units. tt)

decimal_byte_by_text : (before : List ℕ) (b : ℕ) → IsJudgedByText (decimal_item before b)
unfolding decimal_item
decimal_byte_by_text before b = three_by_text (nat_le GAP_LIMIT (length before) && not (is_complete before b))
    (not (ends_in_comment before) && not (is_digit b || is_apart b)) (is_complete before b) TooLong BadSample EndsBefore tt tt tt

decimal_end_by : (t : Bool) → EndsByText (if t then None else Some RasterCut)
decimal_end_by true = tt
decimal_end_by false = tt

pixel_byte_by_text : (before : List ℕ) (b : ℕ) → IsJudgedByText (pixel_item before b)
unfolding pixel_item
pixel_byte_by_text before b = three_by_text (nat_le GAP_LIMIT (length before)) (not (ends_in_comment before) && not (is_pixel b || is_apart b))
    (not (ends_in_comment before) && is_pixel b) TooLong BadSample EndsWith tt tt tt

pixel_by_text : (text : List ℕ) → FailsByText (plain_pixel text)
unfolding plain_pixel
pixel_by_text text = bind_by_text (piece_from pixel_item pixel_end [] text) (λ piece. Ok (pixel_in piece.0, piece.1))
    (piece_by_text pixel_item pixel_end [] text pixel_byte_by_text (λ prefix. tt)) (λ piece. tt)

decimal_by_text : (maxval : ℕ) (text : List ℕ) → FailsByText (plain_decimal maxval text)
unfolding plain_decimal
decimal_by_text maxval text =
    bind_by_text (piece_from decimal_item decimal_end [] text) (λ piece. sample_item maxval (number_in piece.0) >>= λ sample. Ok (sample, piece.1))
    (piece_by_text decimal_item decimal_end [] text decimal_byte_by_text (λ prefix. decimal_end_by (ends_in_digit prefix)))
    (λ piece. bind_by_text (sample_item maxval (number_in piece.0)) (λ sample. Ok (sample, piece.1))
    (when_by_text (nat_le (number_in piece.0) maxval) (number_in piece.0) SampleAboveMaxval tt) (λ sample. tt))

sample_by_text : (kind : Kind) (maxval : ℕ) (text : List ℕ) → FailsByText (plain_sample kind maxval text)
sample_by_text Bit maxval text = pixel_by_text text
sample_by_text Gray maxval text = decimal_by_text maxval text
sample_by_text Color maxval text = decimal_by_text maxval text
sample_by_text Pam maxval text = decimal_by_text maxval text

plain_row_by_text : (s : Shape) (text : List ℕ) → FailsByText (plain_row s text)
unfolding plain_row
plain_row_by_text s text = items_by_text (plain_sample s.kind s.maxval) (row_length s) text (sample_by_text s.kind s.maxval)

after_last_by_text : (text : List ℕ) → FailsByText (after_last_item text)
unfolding after_last_item
after_last_by_text text = when_by_text (begins_apart text) text BadSample tt

last_row_by_text : (s : Shape) (text : List ℕ) → FailsByText (last_plain_row s text)
unfolding last_plain_row
last_row_by_text s text =
    bind_by_text (plain_row s text) (λ row. after_last_item row.1 >>= λ rest. Ok (row.0, rest)) (plain_row_by_text s text)
    (λ row. bind_by_text (after_last_item row.1) (λ rest. Ok (row.0, rest)) (after_last_by_text row.1) (λ rest. tt))

row_by_text : (is_plain : Bool) (s : Shape) (more : ℕ) (text : List ℕ) → FailsByText (row_in_form is_plain s more text)
row_by_text false s more text = raw_row_by_text s text
row_by_text true s zero text = last_row_by_text s text
row_by_text true s (suc more) text = plain_row_by_text s text

-- ---- what is said

-- what is said ends by a fault of the text, if by one
abbrev EndsSo : (List ℕ → Said) → Type 0
EndsSo later = (text : List ℕ) → EndsByText (later text).fault

end_by_text : (later : List ℕ → Said) (is_plain : Bool) (text : List ℕ) → EndsSo later → EndsByText (end_said later is_plain text).fault
end_by_text later true text so = tt
end_by_text later false text so = so text

from_row_by_text : (later : List ℕ → Said) (format : Format) (s : Shape) (more : ℕ) (r : Result (List ℕ × List ℕ) InputFault) → FailsByText r
    → ((text : List ℕ) → EndsByText (rows_said later format s more text).fault) → EndsByText (said_from later format s more r).fault
from_row_by_text later format s more (Ok row) h others = others row.1
from_row_by_text later format s more (Err fault) h others = h

rows_by_text : (later : List ℕ → Said) (format : Format) (s : Shape) (more : ℕ) (text : List ℕ) → EndsSo later
    → EndsByText (rows_said later format s more text).fault
unfolding rows_said
rows_by_text later format s zero text so = end_by_text later (is_plain_form format.form) text so
rows_by_text later format s (suc more) text so =
    from_row_by_text later format s more (row_at format s more text) (row_by_text (is_plain_form format.form) s more text)
    (λ rest. rows_by_text later format s more rest so)

head_said_by_text : (later : List ℕ → Said) (format : Format) (found : Result (HeadValue × List ℕ) InputFault) → EndsSo later → FailsByText found
    → EndsByText (head_said later format found).fault
head_said_by_text later format (Ok x) so h = rows_by_text later format x.0.shape x.0.shape.height x.1 so
head_said_by_text later format (Err fault) so h = h

format_said_by_text : (later : List ℕ → Said) (found : Result (Format × List ℕ) InputFault) → EndsSo later → FailsByText found
    → EndsByText (format_said later found).fault
format_said_by_text later (Ok x) so h = head_said_by_text later x.0 (head_at x.0 x.1) so (head_by_text x.0 x.1)
format_said_by_text later (Err fault) so h = h

image_by_text : (later : List ℕ → Said) (is_first : Bool) (text : List ℕ) → EndsSo later → EndsByText (image_said later is_first text).fault
unfolding image_said
image_by_text later is_first text so = format_said_by_text later (format_at is_first text) so (format_by_text is_first text)

later_in_by_text : (most : ℕ) → EndsSo (later_said_in most)
unfolding later_said_in
later_in_by_text zero [] = tt
later_in_by_text zero (b ∷ text) = tt
later_in_by_text (suc most) [] = tt
later_in_by_text (suc most) (b ∷ text) = image_by_text (later_said_in most) false (b ∷ text) (later_in_by_text most)

later_by_text : EndsSo later_said
unfolding later_said
later_by_text text = later_in_by_text (length text) text

-- what is said of a text ends by a fault of the text, if by one
pub said_by_text : (text : List ℕ) → EndsByText (fault_of text)
unfolding text_said
said_by_text text = image_by_text later_said true text later_by_text

-- the fault of a text is never one from outside
pub fault_is_of_text : (text : List ℕ) → (fault_of text ≡ Some ReadFailed → ⊥) × (fault_of text ≡ Some Memory → ⊥)
fault_is_of_text text = (λ e. subst EndsByText e (said_by_text text), λ e. subst EndsByText e (said_by_text text))
