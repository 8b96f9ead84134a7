-- Steps that fail by a fault of the text, and that the magic and the header do: neither by a failed read nor for want of memory.
use Rattle.pnm_read.proofs.Words.{ℕ, Bool, true, false, not, ◌==◌, ◌||◌, ◌&&◌, if◌then◌else◌, List, [], ◌∷◌, ◌++◌, length, Option, Some, None, Result, Ok, Err}
use Rattle.pnm_read.proofs.Words.{nat_le, nat_lt, list_all, HeadFault, Kind, Bit, Gray, Color, Pam, Shape, HeadValue, head_value, row_length, shape_fault}
use Rattle.pnm_read.proofs.Words.{InputFault, BadMagic, TooLong, BadNumber, BadPamLine, DuplicateField, MissingField, PlainInStream, ReadFailed, Memory, Format}
use Rattle.pnm_read.proofs.Words.{ScanStatus, GoesOn, EndsWith, EndsBefore, Fails, Field, LineKind, Nothing, Number, TupleType, End, Unknown, numbers_in}
use Rattle.pnm_read.proofs.Words.{is_digit, format_of, is_plain_form, number_count, shape_of, ended_lines, last_line, second_token, line_kind, field_values}
use Rattle.pnm_read.proofs.Words.{tuple_type_in, ◌>>=◌, header_limit, is_bad_in_header, is_delimiter, header_end, fault_of_head, pam_limit, number_item}
use Rattle.pnm_read.proofs.Words.{is_type_too_long, tuple_type_item, line_item, shape_in, head_by, head_at, MAX_DEPTH, MAX_MAXVAL, MAX_ROW_LENGTH, MAX_SIDE}
use Rattle.pnm_image.specs.declared.head.HeadFault.TheVariants as heads
use Rattle.pnm_read.specs.Items.{piece_from, first_magic_item, second_magic_item, header_item}
use Rattle.pnm_read.specs.Items.{numbers_item, line_feed_item, pam_item}
use Rattle.pnm_read.specs.Items.{lines_item}
use Rattle.pnm_read.specs.Said.{format_at, pnm_head_at, pam_head_at}
use Rattle.pnm_read.proofs.PamLineLaws.{line_by}

-- ---- faults of a text, and steps that fail by one

-- a fault that a text can have: neither a failed read nor memory that ran out
abbrev pub IsOfText : InputFault → Type 0
IsOfText ReadFailed = ⊥
IsOfText Memory = ⊥
IsOfText fault = Unit {0}

-- no fault, or one that a text can have
abbrev pub EndsByText : Option InputFault → Type 0
EndsByText None = Unit {0}
EndsByText (Some fault) = IsOfText fault

-- a step whose fault, if it fails, is one that a text can have
abbrev pub FailsByText : {A : Type 0} → Result A InputFault → Type 0
FailsByText (Ok x) = Unit {0}
FailsByText (Err fault) = IsOfText fault

-- a judgement whose fault, if it is one, is one that a text can have
abbrev pub IsJudgedByText : ScanStatus → Type 0
IsJudgedByText (Fails fault) = IsOfText fault
IsJudgedByText scan_status = Unit {0}

-- one step after another fails by a fault of the text, where each does
pub bind_by_text : {A B : Type 0} (r : Result A InputFault) (f : A → Result B InputFault) → FailsByText r → ((x : A) → FailsByText (f x))
    → FailsByText (r >>= f)
bind_by_text (Ok x) f h next = next x
bind_by_text (Err fault) f h next = h

-- a test fails by the fault of the text that it names
pub when_by_text : {A : Type 0} (t : Bool) (x : A) (fault : InputFault) → IsOfText fault → FailsByText (if t then Ok x else Err fault)
when_by_text true x fault h = tt
when_by_text false x fault h = h

-- ---- pieces

-- a piece from a byte on, which is judged so
abbrev pieced : (List ℕ → ℕ → ScanStatus) → (List ℕ → Option InputFault) → ScanStatus → List ℕ → ℕ → List ℕ → Result (List ℕ × List ℕ) InputFault
pieced item at_end scan_status before b text = elim scan_status [
  | Fails fault ↦ Err fault
  | EndsWith ↦ Ok (before ++ b ∷ [], text)
  | EndsBefore ↦ Ok (before, b ∷ text)
  | GoesOn ↦ piece_from item at_end (before ++ b ∷ []) text
]

pieced_by_text : (item : List ℕ → ℕ → ScanStatus) (at_end : List ℕ → Option InputFault) (scan_status : ScanStatus) (before : List ℕ) (b : ℕ) (text : List ℕ)
    → IsJudgedByText scan_status → FailsByText (piece_from item at_end (before ++ b ∷ []) text)
    → FailsByText (pieced item at_end scan_status before b text)
pieced_by_text item at_end (Fails fault) before b text h more = h
pieced_by_text item at_end EndsWith before b text h more = tt
pieced_by_text item at_end EndsBefore before b text h more = tt
pieced_by_text item at_end GoesOn before b text h more = more

-- a piece where the text ends
abbrev piece_at_end : Option InputFault → List ℕ → Result (List ℕ × List ℕ) InputFault
piece_at_end fault before = elim fault [
  | Some f ↦ Err f
  | None ↦ Ok (before, [])
]

ended_by_text : (fault : Option InputFault) (before : List ℕ) → EndsByText fault → FailsByText (piece_at_end fault before)
ended_by_text None before h = tt
ended_by_text (Some fault) before h = h

-- a piece fails by a fault of the text, where its bytes and its end do
pub piece_by_text : (item : List ℕ → ℕ → ScanStatus) (at_end : List ℕ → Option InputFault) (before text : List ℕ)
    → ((prefix : List ℕ) (b : ℕ) → IsJudgedByText (item prefix b)) → ((prefix : List ℕ) → EndsByText (at_end prefix))
    → FailsByText (piece_from item at_end before text)
unfolding piece_from
piece_by_text item at_end before [] judged ended = ended_by_text (at_end before) before (ended before)
piece_by_text item at_end before (b ∷ text) judged ended = pieced_by_text item at_end (item before b) before b text (judged before b)
    (piece_by_text item at_end (before ++ b ∷ []) text judged ended)

-- three tests in turn
pub three_by_text : (a b c : Bool) (fault other : InputFault) (last : ScanStatus) → IsOfText fault → IsOfText other → IsJudgedByText last
    → IsJudgedByText (if a then Fails fault else if b then Fails other else if c then last else GoesOn)
three_by_text true b c fault other last f o l = f
three_by_text false true c fault other last f o l = o
three_by_text false false true fault other last f o l = l
three_by_text false false false fault other last f o l = tt

-- ---- the magic

first_magic_by_text : (text : List ℕ) → FailsByText (first_magic_item text)
unfolding first_magic_item
first_magic_by_text [] = tt
first_magic_by_text (b ∷ text) = when_by_text (b == 80) text BadMagic tt

-- a plain image after another is refused
refused_by_text : (refused : Bool) (format : Format) (text : List ℕ)
    → FailsByText {A = Format × List ℕ} (if refused then Err PlainInStream else Ok (format, text))
refused_by_text true format text = tt
refused_by_text false format text = tt

-- the format that a magic names, if it names one
abbrev magic_named : Bool → Option Format → List ℕ → Result (Format × List ℕ) InputFault
magic_named is_first found text = elim found [
  | Some format ↦ if is_plain_form format.form && not is_first then Err PlainInStream else Ok (format, text)
  | None ↦ Err BadMagic
]

named_by_text : (is_first : Bool) (found : Option Format) (text : List ℕ) → FailsByText (magic_named is_first found text)
named_by_text is_first None text = tt
named_by_text is_first (Some format) text = refused_by_text (is_plain_form format.form && not is_first) format text

second_magic_by_text : (is_first : Bool) (text : List ℕ) → FailsByText (second_magic_item is_first text)
unfolding second_magic_item
second_magic_by_text is_first [] = tt
second_magic_by_text is_first (b ∷ text) = named_by_text is_first (format_of b) text

pub format_by_text : (is_first : Bool) (text : List ℕ) → FailsByText (format_at is_first text)
unfolding format_at
format_by_text is_first text = bind_by_text (first_magic_item text) (second_magic_item is_first) (first_magic_by_text text) (second_magic_by_text is_first)

-- ---- the header of PBM, PGM and PPM

header_byte_by_text : (count : ℕ) (before : List ℕ) (b : ℕ) → IsJudgedByText (header_item count before b)
unfolding header_item
header_byte_by_text count before b = three_by_text (nat_le header_limit (length before)) (is_bad_in_header before b) (is_delimiter count before b) TooLong
    BadNumber EndsWith tt tt tt

-- a head, or its fault
abbrev head_or_fault : Option HeadFault → HeadValue → Result HeadValue InputFault
head_or_fault fault head = elim fault [
  | Some f ↦ Err (fault_of_head f)
  | None ↦ Ok head
]

-- a head's fault is one of its numbers
judged_by_text : (a b c : Bool) (head : HeadValue)
    → FailsByText (head_or_fault (if a then Some heads.ZeroSize else if b then Some heads.TooLarge else if c then Some heads.BadMaxval else None) head)
judged_by_text true b c head = tt
judged_by_text false true c head = tt
judged_by_text false false true head = tt
judged_by_text false false false head = tt

shape_by_text : (s : Shape) (head : HeadValue) → FailsByText (head_or_fault (shape_fault s) head)
shape_by_text s head = judged_by_text ((s.width == 0) || (s.height == 0) || (s.depth == 0))
    (nat_lt MAX_SIDE s.width || nat_lt MAX_SIDE s.height || nat_lt MAX_DEPTH s.depth || nat_lt MAX_ROW_LENGTH (row_length s))
    ((s.maxval == 0) || nat_lt MAX_MAXVAL s.maxval) head

numbers_by_text : (kind : Kind) (numbers : List ℕ) → FailsByText (numbers_item kind numbers)
unfolding numbers_item
numbers_by_text kind numbers = shape_by_text (shape_of kind numbers) (head_value (shape_of kind numbers) [])

pnm_head_by_text : (kind : Kind) (text : List ℕ) → FailsByText (pnm_head_at kind text)
unfolding pnm_head_at
pnm_head_by_text kind text =
    let count = number_count kind in
    bind_by_text (piece_from (header_item count) header_end [] text) (λ piece. numbers_item kind (numbers_in piece.0) >>= λ head. Ok (head, piece.1))
    (piece_by_text (header_item count) header_end [] text (header_byte_by_text count) (λ prefix. tt))
    (λ piece. bind_by_text (numbers_item kind (numbers_in piece.0)) (λ head. Ok (head, piece.1)) (numbers_by_text kind (numbers_in piece.0)) (λ head. tt))

-- ---- the header of PAM

line_feed_by_text : (text : List ℕ) → FailsByText (line_feed_item text)
unfolding line_feed_item
line_feed_by_text [] = tt
line_feed_by_text (b ∷ text) = when_by_text (b == 10) text BadPamLine tt

-- three tests that fail
three_fail_by_text : (a b c : Bool) (first second third : InputFault) → IsOfText first → IsOfText second → IsOfText third
    → IsJudgedByText (if a then Fails first else if b then Fails second else if c then Fails third else GoesOn)
three_fail_by_text true b c first second third f s t = f
three_fail_by_text false true c first second third f s t = s
three_fail_by_text false false true first second third f s t = t
three_fail_by_text false false false first second third f s t = tt

-- one test that fails
one_fails_by_text : (a : Bool) (fault : InputFault) → IsOfText fault → IsJudgedByText (if a then Fails fault else GoesOn)
one_fails_by_text true fault h = h
one_fails_by_text false fault h = tt

number_line_by_text : (lines : List (List ℕ)) (field : Field) (line : List ℕ) → IsJudgedByText (number_item lines field line)
number_line_by_text lines field line = three_fail_by_text (length (second_token line) == 0) (not (list_all is_digit (second_token line)))
    (not (length (field_values field lines) == 0)) BadPamLine BadNumber DuplicateField tt tt tt

tuple_type_by_text : (lines : List (List ℕ)) (line : List ℕ) → IsJudgedByText (tuple_type_item lines line)
tuple_type_by_text lines line = one_fails_by_text (is_type_too_long (tuple_type_in (lines ++ line ∷ []))) TooLong tt

line_kind_by_text : (kind : LineKind) (lines : List (List ℕ)) (line : List ℕ) → IsJudgedByText (line_by kind lines line)
line_kind_by_text Nothing lines line = tt
line_kind_by_text (Number field) lines line = number_line_by_text lines field line
line_kind_by_text TupleType lines line = tuple_type_by_text lines line
line_kind_by_text End lines line = tt
line_kind_by_text Unknown lines line = tt

-- a byte of a header of PAM: a line feed judges its line
pam_byte_by : (long feed : Bool) (line : ScanStatus) → IsJudgedByText line → IsJudgedByText (if long then Fails TooLong else if feed then line else GoesOn)
pam_byte_by true feed line h = tt
pam_byte_by false true line h = h
pam_byte_by false false line h = tt

pub pam_item_by_text : (before : List ℕ) (b : ℕ) → IsJudgedByText (pam_item before b)
unfolding pam_item
pam_item_by_text before b = pam_byte_by (nat_le pam_limit (length before)) (b == 10) (line_item (ended_lines before) (last_line before))
    (line_kind_by_text (line_kind (last_line before)) (ended_lines before) (last_line before))

-- lines without a number fail, and others make a head or its fault
lines_by : (missing : Bool) (made : Result HeadValue InputFault) → FailsByText made → FailsByText {A = HeadValue} (if missing then Err MissingField else made)
lines_by true made h = tt
lines_by false made h = h

-- the head that lines with each number make, or its fault
abbrev lines_made : List (List ℕ) → Result HeadValue InputFault
lines_made lines = head_or_fault (shape_fault (shape_in lines)) (head_value (shape_in lines) (tuple_type_in lines))

pub lines_item_by_text : (lines : List (List ℕ)) → FailsByText (lines_item lines)
unfolding lines_item
lines_item_by_text lines =
    lines_by _ (lines_made lines) (shape_by_text (shape_in lines) (head_value (shape_in lines) (tuple_type_in lines)))

pub pam_head_by_text : (text : List ℕ) → FailsByText (pam_head_at text)
unfolding pam_head_at
pam_head_by_text text =
    bind_by_text (line_feed_item text) (λ rest. piece_from pam_item header_end [] rest >>= λ piece. lines_item (ended_lines piece.0) >>= λ head.
    Ok (head, piece.1)) (line_feed_by_text text)
    (λ rest. bind_by_text (piece_from pam_item header_end [] rest) (λ piece. lines_item (ended_lines piece.0) >>= λ head. Ok (head, piece.1))
    (piece_by_text pam_item header_end [] rest pam_item_by_text (λ prefix. tt))
    (λ piece. bind_by_text (lines_item (ended_lines piece.0)) (λ head. Ok (head, piece.1)) (lines_item_by_text (ended_lines piece.0)) (λ head. tt)))

-- ---- the header of any format

head_by_kind_by_text : (kind : Kind) (text : List ℕ) → FailsByText (head_by kind text)
head_by_kind_by_text Bit text = pnm_head_by_text Bit text
head_by_kind_by_text Gray text = pnm_head_by_text Gray text
head_by_kind_by_text Color text = pnm_head_by_text Color text
head_by_kind_by_text Pam text = pam_head_by_text text

pub head_by_text : (format : Format) (text : List ℕ) → FailsByText (head_at format text)
head_by_text format text = head_by_kind_by_text format.kind text
