-- What is said of a text that begins with a raw image is what is said of that alone, and then of what follows it.
use Rattle.pnm_read.proofs.Words.{◌≡◌, ℕ, zero, suc, ◌+◌, ◌*◌, ◌≤◌, Bool, true, false, if◌then◌else◌, List, [], ◌∷◌, ◌++◌, length, take, drop, Option, Some}
use Rattle.pnm_read.proofs.Words.{None, Result, refl, sym, ap, ap₂, ◌∙◌, append_assoc, arith, zero-mul, suc-mul, take_at, drop_at, take-append-le}
use Rattle.pnm_read.proofs.Words.{drop-append-le, take-append-drop, length-take-le, length-drop, length-append, nil_from_length, both_ways, is_plain_form}
use Rattle.pnm_read.proofs.Words.{HeadValue, Format, Message, Begin, Row, ImageEnd, Shape, InputFault, SpellsHeader, bytes_in_row, raw_samples, Said, raw_row}
use Rattle.pnm_read.proofs.Words.{then_said, says_nothing, ends_stream, head_said, format_said, later_said, BeginsWithHeader, joined, followed_by}
use Rattle.pnm_read.proofs.Words.{FirstImageStandsAlone}
use Rattle.pnm_read.specs.Said.{rows_said, image_said}
use Rattle.pnm_read.proofs.RawLaws.{IsPackable, sample_width_in, packable, row_read, row_at_raw}
use Rattle.pnm_read.proofs.ReadHeaderLaws.{spelled_head}
use Rattle.pnm_read.proofs.RowsInTurn.{said_from}
use Rattle.pnm_read.proofs.SpelledHeaders.{spelled_header_is_read}
use Rattle.pnm_read.proofs.UnitLaws.{are_within, unit_if}

-- nothing follows an image by itself
abbrev nothing_later : List ℕ → Said
nothing_later rest = says_nothing

-- a message that is said first
joined_first : (m : Message) (messages : List Message) (fault : Option InputFault) (next : Said)
    → then_said m (joined messages fault next) ≡ joined (m ∷ messages) fault next
joined_first m messages (Some fault) next = refl
joined_first m messages None next = refl

first_said : (m : Message) (first next : Said) → then_said m (followed_by first next) ≡ followed_by (then_said m first) next
first_said m first next = joined_first m first.messages first.fault next

-- ---- rows

-- a row of a raster, before anything
row_before : {s : Shape} (raster after : List ℕ) → IsPackable (sample_width_in s) s → bytes_in_row s ≤ length raster
    → raw_row s (raster ++ after) ≡ unit_if (are_within s.maxval (raw_samples s (take (bytes_in_row s) raster)))
    (raw_samples s (take (bytes_in_row s) raster)) (drop (bytes_in_row s) raster ++ after)
row_before {s} raster after h long =
    let each : ℕ = bytes_in_row s in
    let row : List ℕ = raw_samples s (take each raster) in
    row_read (raster ++ after) h (omega (arith, length-append raster after))
    ∙ ap (λ (l : List ℕ). unit_if (are_within s.maxval (raw_samples s l)) (raw_samples s l) (drop each (raster ++ after)))
    (take-append-le each raster after long)
    ∙ ap (λ (l : List ℕ). unit_if (are_within s.maxval row) row l) (drop-append-le each raster after long)

-- what is said of the rows of the raster, and of what follows them
row_alone : (later : List ℕ → Said) (format : Format) (s : Shape) (n : ℕ) (within : Bool) (row left after : List ℕ)
    → rows_said later format s n (left ++ after) ≡ followed_by (rows_said nothing_later format s n left) (later after)
    → said_from later format s n (unit_if within row (left ++ after)) ≡ followed_by (said_from nothing_later format s n (unit_if within row left)) (later after)
row_alone later format s n true row left after e =
    ap (then_said (Row row)) e ∙ first_said (Row row) (rows_said nothing_later format s n left) (later after)
row_alone later format s n false row left after e = refl

rows_alone : (later : List ℕ → Said) (format : Format) {s : Shape} (n : ℕ) (raster after : List ℕ) → is_plain_form format.form ≡ false
    → IsPackable (sample_width_in s) s → length raster ≡ n * bytes_in_row s
    → rows_said later format s n (raster ++ after) ≡ followed_by (rows_said nothing_later format s n raster) (later after)
unfolding rows_said
rows_alone later format {s} zero raster after raw h size =
    let none : raster ≡ [] = nil_from_length raster (size ∙ zero-mul (bytes_in_row s)) in
    ap (λ (p : Bool). then_said ImageEnd (if p then ends_stream else later (raster ++ after))) raw
    ∙ ap (λ (t : List ℕ). then_said ImageEnd (later (t ++ after))) none
    ∙ sym (ap (λ (p : Bool). followed_by (then_said ImageEnd (if p then ends_stream else says_nothing)) (later after)) raw)
rows_alone later format {s} (suc n) raster after raw h size =
    let each : ℕ = bytes_in_row s in
    let total : length raster ≡ n * each + each = size ∙ suc-mul n each in
    let long : each ≤ length raster = omega arith in
    let left : length (drop each raster) ≡ n * each = omega (arith, length-drop each raster) in
    let row : List ℕ = raw_samples s (take each raster) in
    ap (said_from later format s n) (row_at_raw format s n (raster ++ after) raw ∙ row_before raster after h long)
    ∙ row_alone later format s n (are_within s.maxval row) row (drop each raster) after (rows_alone later format n (drop each raster) after raw h left)
    ∙ sym (ap (λ (r : Result (List ℕ × List ℕ) InputFault). followed_by (said_from nothing_later format s n r) (later after))
    (row_at_raw format s n raster raw ∙ row_read raster h long))

-- ---- the image

header_then : (later : List ℕ → Said) (is_first : Bool) (header rest : List ℕ) (format : Format) (head : HeadValue)
    → is_plain_form format.form ≡ false → SpellsHeader header format head
    → image_said later is_first (header ++ rest) ≡ then_said (Begin head) (rows_said later format head.shape head.shape.height rest)
unfolding image_said
header_then later is_first header rest format head raw h =
    let read = spelled_header_is_read header rest format head is_first (λ plain. absurd (both_ways (is_plain_form format.form) raw plain)) h in
    ap (format_said later) read.1 ∙ ap (head_said later format) read.2

image_alone : (is_first : Bool) (header raster after : List ℕ) (format : Format) (head : HeadValue) → is_plain_form format.form ≡ false
    → SpellsHeader header format head → length raster ≡ head.shape.height * bytes_in_row head.shape
    → image_said later_said is_first (header ++ (raster ++ after)) ≡ followed_by (image_said nothing_later is_first (header ++ raster)) (later_said after)
image_alone is_first header raster after format head raw h size =
    let alone : Said = rows_said nothing_later format head.shape head.shape.height raster in
    header_then later_said is_first header (raster ++ after) format head raw h
    ∙ ap (then_said (Begin head)) (rows_alone later_said format head.shape.height raster after raw (packable head (spelled_head header h).sound) size)
    ∙ first_said (Begin head) alone (later_said after)
    ∙ sym (ap (λ (x : Said). followed_by x (later_said after)) (header_then nothing_later is_first header raster format head raw h))

pub first_image_stands_alone : FirstImageStandsAlone
first_image_stands_alone text size is_first r within =
    let b : BeginsWithHeader false text = r.begins in
    let count : ℕ = b.head.shape.height * bytes_in_row b.head.shape in
    let raster : List ℕ = take count b.rest in
    let after : List ℕ = drop count b.rest in
    let is : size ≡ length b.header + count = r.size_is in
    let total : length text ≡ length b.header + length b.rest = ap (λ (t : List ℕ). length t) b.whole ∙ length-append b.header b.rest in
    let enough : count ≤ length b.rest = omega arith in
    let long : length raster ≡ count = length-take-le count b.rest enough in
    let whole : text ≡ b.header ++ (raster ++ after) = b.whole ∙ ap (λ (t : List ℕ). b.header ++ t) (sym (take-append-drop count b.rest)) in
    let parted : text ≡ (b.header ++ raster) ++ after = whole ∙ sym (append_assoc b.header raster after) in
    let length_is : length (b.header ++ raster) ≡ size = omega (arith, length-append b.header raster) in
    let front : take size text ≡ b.header ++ raster = ap (λ (t : List ℕ). take size t) parted ∙ take_at (b.header ++ raster) after size length_is in
    let back : drop size text ≡ after = ap (λ (t : List ℕ). drop size t) parted ∙ drop_at (b.header ++ raster) after size length_is in
    ap (image_said later_said is_first) whole ∙ image_alone is_first b.header raster after b.format b.head b.form b.header_is long
    ∙ ap₂ (λ (f t : List ℕ). followed_by (image_said nothing_later is_first f) (later_said t)) (sym front) (sym back)
