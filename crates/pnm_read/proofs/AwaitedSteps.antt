-- The packets of a source, by what it awaits.
use Rattle.pnm_read.proofs.Words.{is_plain_form, ◌≡◌, ℕ, ◌+◌, ◌-◌, ◌<◌, Bool, true, false, List, [], ◌∷◌, length, Option, ◌==◌, sym, Result, Ok, Err, inl, inr}
use Rattle.pnm_read.proofs.Words.{refl, ap, ap₂, subst, ◌∙◌, arith, ◌++◌, ◌≤◌, Some, None, append_assoc, IfSome, IsSomeAnd, MatchOption, length-append}
use Rattle.pnm_read.proofs.Words.{length-map, nat_tests, Shape, Message, Begin, RowMessage, ImageEnd, messages_in, head_messages, end_messages, Packet}
use Rattle.pnm_read.proofs.Words.{EndsStream, HeadValue, row_messages, rows_list, InputFault, ReadFailed, Memory, Format, BufferedReader, Raster, Awaited}
use Rattle.pnm_read.proofs.Words.{FirstImage, ImageOrEnd, State, Ended, later_said, format_at, head_at, format_said, head_said, then_said, after_messages}
use Rattle.pnm_read.proofs.Words.{held_of, ReadCall, Fills, Finds, HoldsEnough, due_at, state_due, Gives, GivesAtStart, MayBeGiven, SeesText, TakesRows}
use Rattle.pnm_read.proofs.Words.{due_after}
use Rattle.pnm_read.specs.declared.source.Awaited.TheVariants.{Row, End}
use Rattle.pnm_read.specs.Said.{text_said, image_said, rows_said}
use Rattle.pnm_read.proofs.EndSaid.{end_said}
use Rattle.pnm_read.proofs.GivenLaws.{after-append}
use Rattle.pnm_read.proofs.ReadCalls.{no_fault, call_ok_so, call_err_so, call_seen, nothing_left, some_left}
use Rattle.pnm_read.proofs.RowsTogether.{rows_are_said}
use Rattle.pnm_read.proofs.ScanSteps.{end_seen, none_of_length}
use Rattle.pnm_read.proofs.LaterLaws.{later_said-nothing, later_said-next}

-- ---- the beginning of an image

-- a text whose magic is at fault
pub no_format : (is_first : Bool) (state : State) (k : InputFault) (b a : List ℕ) → Finds (format_at is_first) (Err k) b a
    → GivesAtStart is_first (Err k) state b a
unfolding image_said
no_format is_first state k b a (inl e) = inl (ap (format_said later_said) e)
no_format is_first state k b a (inr o) = inr o

-- a text whose header is at fault
pub no_head : (is_first : Bool) (state : State) (format : Format) (k : InputFault) (b m a : List ℕ) → Finds (format_at is_first) (Ok format) b m
    → Finds (head_at format) (Err k) m a → GivesAtStart is_first (Err k) state b a
unfolding image_said
no_head is_first state format k b m a f (inl e) = inl (ap (format_said later_said) f ∙ ap (head_said later_said format) e)
no_head is_first state format k b m a f (inr o) = inr o

rows_due : {format : Format} (head : HeadValue) (raster : Raster) (a : List ℕ) → raster.format ≡ format → raster.shape ≡ head.shape → raster.y ≡ 0
    → rows_said later_said format head.shape head.shape.height a ≡ due_at (Row raster) a
rows_due head raster a rf rs ry =
    let rows : raster.shape.height - raster.y ≡ head.shape.height = let same = ap (λ (s : Shape). s.height) rs in omega arith in
    rw (rf, rows, rs) refl

head_is_said : (is_first : Bool) {format : Format} (head : HeadValue) (raster : Raster) (b m a : List ℕ) → Finds (format_at is_first) (Ok format) b m
    → Finds (head_at format) (Ok head) m a → raster.format ≡ format → raster.shape ≡ head.shape → raster.y ≡ 0
    → image_said later_said is_first b ≡ then_said (Begin head) (due_at (Row raster) a)
unfolding image_said
head_is_said is_first {format} head raster b m a f h rf rs ry =
    ap (format_said later_said) f ∙ ap (head_said later_said format) h ∙ ap (then_said (Begin head)) (rows_due head raster a rf rs ry)

-- a header, and the rows that come next of its raster
pub begins : (is_first : Bool) {format : Format} (head : HeadValue) (raster : Raster) (rows : List (List ℕ)) (packet : Packet) (state : State)
    (b m t a : List ℕ) → Finds (format_at is_first) (Ok format) b m → Finds (head_at format) (Ok head) m t → raster.format ≡ format
    → raster.shape ≡ head.shape → raster.y ≡ 0 → due_at (Row raster) t ≡ after_messages (row_messages rows) (due_after (length rows) raster a)
    → after_messages (head_messages (Some head) ++ row_messages rows) (due_after (length rows) raster a) ≡ after_messages (messages_in packet)
    (state_due state a) → MayBeGiven packet state → GivesAtStart is_first (Ok packet) state b a
begins is_first head raster rows packet state b m t a f h rf rs ry come said given =
    (head_is_said is_first head raster b m t f h rf rs ry ∙ ap (then_said (Begin head)) come ∙ said, given)

-- rows that are held come next; or nothing was taken
pub held_come : {R : Type 0} (raster : Raster) (rows : Option (List (List ℕ))) (mid new : BufferedReader R) (rest : List ℕ)
    → IfSome rows (λ _. is_plain_form raster.format.form ≡ false) → length (rows_list rows) ≤ raster.shape.height - raster.y
    → IfSome rows (λ rows. TakesRows raster.shape (length rows) rows (held_of mid) (held_of new)) → (rows ≡ None → new ≡ mid)
    → due_at (Row raster) (held_of mid ++ rest)
    ≡ after_messages (row_messages (rows_list rows)) (due_after (length (rows_list rows)) raster (held_of new ++ rest))
held_come {R = R} raster None mid new rest raw left taken none =
    let all : raster.shape.height - raster.y ≡ raster.shape.height - raster.y - 0 = omega arith in
    ap₂ (λ (n : ℕ) (text : List ℕ). rows_said later_said raster.format raster.shape n text) all
    (ap (λ (i : BufferedReader R). held_of i ++ rest) (sym (none refl)))
held_come {R = R} raster (Some rows) mid new rest raw left taken none =
    let n : ℕ = raster.shape.height - raster.y in
    rows_are_said later_said raster.format raster.shape (length rows) n (n - length rows) (held_of mid ++ rest) (held_of new ++ rest) rows raw
    (omega (arith, left)) (taken rest)

-- ---- the raster

-- what is said where no row is left
no_row_said : (raster : Raster) {plain : Bool} (text : List ℕ) → raster.shape.height ≤ raster.y → is_plain_form raster.format.form ≡ plain
    → due_at (Row raster) text ≡ then_said ImageEnd (end_said later_said plain text)
unfolding rows_said
no_row_said raster text none is =
    let left : raster.shape.height - raster.y ≡ 0 = omega (arith, none) in
    rw (left, ← is) refl

pub plain_image_ends : (raster : Raster) (text : List ℕ) → raster.shape.height ≤ raster.y → is_plain_form raster.format.form ≡ true
    → due_at (Row raster) text ≡ after_messages (end_messages true) (due_at End text)
plain_image_ends raster text none is = no_row_said raster text none is

pub raw_image_ends : (raster : Raster) (text : List ℕ) → raster.shape.height ≤ raster.y → is_plain_form raster.format.form ≡ false
    → due_at (Row raster) text ≡ after_messages (end_messages true) (due_at ImageOrEnd text)
raw_image_ends raster text none is = no_row_said raster text none is

-- what is said of a raster after more of its rows
after_due : (raster next : Raster) (count : ℕ) (text : List ℕ) → next.format ≡ raster.format → next.shape ≡ raster.shape → next.y ≡ raster.y + count
    → due_after count raster text ≡ due_at (Row next) text
after_due raster next count text nf ns ny =
    let left : raster.shape.height - raster.y - count ≡ next.shape.height - next.y = let same = ap (λ (s : Shape). s.height) ns in omega arith in
    rw (nf, ← left, ns) refl

-- a part says its head, its rows, and the end of the image if that is next
pub part_said : (raster next : Raster) (head : Option HeadValue) (rows : List (List ℕ)) (ends : Bool) (after : Awaited) (text : List ℕ)
    → next.format ≡ raster.format → next.shape ≡ raster.shape → next.y ≡ raster.y + length rows
    → due_at (Row next) text ≡ after_messages (end_messages ends) (due_at after text)
    → after_messages (head_messages head ++ row_messages rows) (due_after (length rows) raster text)
    ≡ after_messages (head_messages head ++ (row_messages rows ++ end_messages ends)) (due_at after text)
part_said raster next head rows ends after text nf ns ny due =
    let given : List Message = head_messages head ++ row_messages rows in
    ap (after_messages given) (after_due raster next (length rows) text nf ns ny ∙ due) ∙ sym (after-append given (end_messages ends) (due_at after text))
    ∙ ap (λ (l : List Message). after_messages l (due_at after text)) (append_assoc (head_messages head) (row_messages rows) (end_messages ends))

-- rows that are held otherwise are the same
pub rows_mapped : (rows held : Option (List (List ℕ))) → MatchOption rows (held ≡ None) (λ rows. IsSomeAnd held (λ (same : List (List ℕ)). same ≡ rows))
    → rows_list held ≡ rows_list rows
rows_mapped (Some rows) (Some held) is = is
rows_mapped (Some rows) None is = absurd is
rows_mapped None held is = ap rows_list is

-- a part stands for a message at least
pub part_some : (head : Option HeadValue) (rows : List (List ℕ)) (ends : Bool) → (head ≡ None → 1 ≤ length rows)
    → 1 ≤ length (head_messages head ++ (row_messages rows ++ end_messages ends))
part_some (Some head) rows ends some = omega arith
part_some None rows ends some = omega (arith, some refl, length-append (row_messages rows) (end_messages ends), length-map rows RowMessage)

-- ---- what follows an image

-- the first image
pub first_begins : (result : Result Packet InputFault) (state : State) (b a : List ℕ) → GivesAtStart true result state b a
    → Gives FirstImage result state b a
unfolding text_said
first_begins (Ok packet) state b a s = s
first_begins (Err k) state b a s = s

-- after a plain image the stream ends
pub plain_ends : {packet : Packet} {state : State} (b a : List ℕ) → packet ≡ EndsStream → state ≡ Ended → Gives End (Ok packet) state b a
plain_ends b a is ss = rw (is, ss) (refl, refl)

-- after a raw image without a byte more it ends
raw_ends : {packet : Packet} {state : State} {b : List ℕ} (a : List ℕ) → b ≡ [] → packet ≡ EndsStream → state ≡ Ended → Gives ImageOrEnd (Ok packet) state b a
raw_ends a e is ss = rw (e, is, ss) (later_said-nothing, refl)

some_bytes : (text : List ℕ) → (text ≡ [] → ⊥) → 0 < length text
some_bytes [] n = absurd (n refl)
some_bytes (x ∷ text) n = omega arith

-- with one more, the next image begins
raw_due : (text : List ℕ) → (text ≡ [] → ⊥) → due_at ImageOrEnd text ≡ image_said later_said false text
raw_due text n = later_said-next text (some_bytes text n)

next_begins : (result : Result Packet InputFault) (state : State) (b a : List ℕ) → (b ≡ [] → ⊥) → GivesAtStart false result state b a
    → Gives ImageOrEnd result state b a
next_begins (Ok packet) state b a n s = (raw_due b n ∙ s.0, s.1)
next_begins (Err k) state b a n (inl e) = inl (raw_due b n ∙ e)
next_begins (Err k) state b a n (inr o) = inr o

seen_next : (ended : Bool) (result : Result Packet InputFault) (state : State) (b m a : List ℕ) → ended ≡ false → SeesText (Ok ended) b m
    → GivesAtStart false result state m a → Gives ImageOrEnd result state b a
seen_next true result state b m a e seen s = absurd cc
seen_next false result state b m a e seen s = next_begins result state b a seen.0 (subst (λ (m : List ℕ). GivesAtStart false result state m a) seen.1 s)

-- the text was seen to end
pub at_end_so : (ended : Bool) {packet : Packet} {state : State} (b a : List ℕ) → ended ≡ true → SeesText (Ok ended) b a → packet ≡ EndsStream
    → state ≡ Ended → Gives ImageOrEnd (Ok packet) state b a
at_end_so true b a e seen is ss = raw_ends a seen.0 is ss
at_end_so false b a e seen is ss = absurd cc

-- ---- whether a byte is left

no_bytes : {bytes held : List ℕ} → bytes ≡ held → true ≡ (length bytes == 0) → held ≡ []
no_bytes {held} e n = none_of_length held e (grind (arith, nat_tests, n))

module _ {R : Type 0} {left : R → Option (List ℕ)} {failures : R → ℕ} {same : R → R → Type 0} {old : BufferedReader R} where
  -- no memory for the rows
  pub no_memory : {A : Type 0} {mid new : BufferedReader R} {o : List ℕ → List ℕ → Type 0} (is_first : Bool) (state : State) {k : InputFault} {x : A}
      → k ≡ Memory → new ≡ mid → ReadCall left failures same old mid (Ok x) o → ReadCall {A = Packet} left failures same old new (Err k)
      (GivesAtStart is_first (Err k) state)
  no_memory is_first state {k} is kept t = rw kept (call_ok_so (Err k) (λ e. absurd cc) (λ b a o. inr (inr is)) t)

  pub first_call : {new : BufferedReader R} (result : Result Packet InputFault) (state : State)
      → ReadCall left failures same old new result (GivesAtStart true result state)
      → ReadCall left failures same old new result (Gives FirstImage result state)
  first_call (Ok packet) state t = call_ok_so (Ok packet) (no_fault packet ReadFailed) (λ b a o. first_begins (Ok packet) state b a o) t
  first_call (Err k) state t = call_err_so (λ b a o. first_begins (Err k) state b a o) t

  -- the next image, where the text was seen to go on
  pub next_so : {new : BufferedReader R} {ended : Bool} (result : Result Packet InputFault) (state : State) → ended ≡ false
      → ReadCall left failures same old new result (λ b a. (m : List ℕ) × SeesText (Ok ended) b m × GivesAtStart false result state m a)
      → ReadCall left failures same old new result (Gives ImageOrEnd result state)
  next_so {ended} (Ok packet) state e t = call_ok_so (Ok packet) (no_fault packet ReadFailed) (λ b a o. seen_next ended (Ok packet) state b o.0 a e o.1 o.2) t
  next_so {ended} (Err k) state e t = call_err_so (λ b a o. seen_next ended (Err k) state b o.0 a e o.1 o.2) t

  -- after asking for a byte, the text has ended where none is held
  pub text_seen : {input : BufferedReader R} (ended : Bool) {bytes : List ℕ} → ended ≡ (length bytes == 0) → bytes ≡ held_of input → HoldsEnough 1 input
      → ReadCall {A = Unit {0}} left failures same old input (Ok tt) (Fills (Ok tt)) → ReadCall {A = Bool} left failures same old input (Ok ended)
      (SeesText (Ok ended))
  text_seen {input = input} true is held enough t =
      let none = no_bytes held is in
      call_ok_so (Ok true) (no_fault true ReadFailed)
      (λ b a o. let nothing = nothing_left input a none (end_seen input enough none) o.1 in (o.0 ∙ nothing, nothing)) (call_seen t)
  text_seen {input = input} false {bytes} is held enough t =
      call_ok_so (Ok false) (no_fault false ReadFailed) (λ b a o. (λ none. some_left input bytes held (sym is) o.1 (sym o.0 ∙ none), sym o.0)) (call_seen t)
