-- The header of PAM: what is read is spelled, and what is spelled is read.
use Rattle.pnm_read.proofs.Words.{◌≡◌, ℕ, ◌+◌, ◌<◌, ◌≤◌, Bool, true, false, not, ◌==◌, if◌then◌else◌, List, [], ◌∷◌, ◌++◌, length, Some, Ok, Err, refl, sym, ap}
use Rattle.pnm_read.proofs.Words.{subst, ◌∙◌, append_assoc, append-nil, arith, nat_le, AllByRecursion, eqb-true, leb-false, lt-leb, not-true, All-head}
use Rattle.pnm_read.proofs.Words.{All-tail, Kind, HeadValue, IsTupleType, Suits, TooLong, BadPamLine, Format, ScanStatus, GoesOn, EndsWith, EndsBefore, Fails}
use Rattle.pnm_read.proofs.Words.{Field, Width, Height, Depth, Maxval, End, format_of, last_line, line_kind, field_values, tuple_type_in, IsOneLine, IsPamLine}
use Rattle.pnm_read.proofs.Words.{SpellsPamHeader, MAX_HEADER_LENGTH, ◌>>=◌, piece_from, header_end, pam_limit, line_item, lines_item}
use Rattle.std.proofs.Common.{length-append}
use Rattle.pnm_read.specs.PamLines.{ended_lines}
use Rattle.pnm_read.specs.Internal.LineWalks.{ended_after, last_after}
use Rattle.pnm_read.specs.Items.{line_feed_item, pam_item}
use Rattle.pnm_read.specs.Said.{pam_head_at}
use Rattle.pnm_read.proofs.PieceLaws.{bind_ok, done, ok_is, piece_step, FoundBy, found_from, found_at_end, found_is_whole}
use Rattle.pnm_read.proofs.HeaderPieces.{goes_on_through}
use Rattle.pnm_read.proofs.LineLaws.{with_feeds, ended_lines-lf, ended_lines-other, ended_lines-are, last_line-is, text_of_lines}
use Rattle.pnm_read.proofs.WalkLaws.{ended_lines_are, last_line_is}
use Rattle.pnm_read.proofs.PamHeads.{MadeOf, lines_make_head, made_is_found, lines_item-end}
use Rattle.pnm_read.proofs.PamLineLaws.{line_is_judged, line_ends, line_ends_with, MayStand, StatusValue, judged-push, judged_none, line_goes_on}

-- ---- how a byte is judged

abbrev pub pam_by : Bool → Bool → ScanStatus → ScanStatus
pam_by long feed line = if long then Fails TooLong else if feed then line else GoesOn

pub pam_item_is : (before : List ℕ) (b : ℕ) → pam_item before b ≡ pam_by (nat_le pam_limit (length before)) (b == 10)
    (line_item (ended_lines before) (last_line before))
unfolding pam_item
pam_item_is before b = refl

goes_on_by : (long feed : Bool) (line : ScanStatus) → pam_by long feed line ≡ GoesOn → feed ≡ true → line ≡ GoesOn
goes_on_by true feed line e h = absurd cc
goes_on_by false true line e h = e
goes_on_by false false line e h = absurd cc

ends_with_by : (long feed : Bool) (line : ScanStatus) → pam_by long feed line ≡ EndsWith → (long ≡ false) × (feed ≡ true) × (line ≡ EndsWith)
ends_with_by true feed line e = absurd cc
ends_with_by false true line e = (refl, refl, e)
ends_with_by false false line e = absurd cc

ends_before_by : (long feed : Bool) (line : ScanStatus) → pam_by long feed line ≡ EndsBefore → line ≡ EndsBefore
ends_before_by true feed line e = absurd cc
ends_before_by false true line e = e
ends_before_by false false line e = absurd cc

-- ---- what is read is spelled

-- a byte more that went on
judged_by : (feed : Bool) (before : List ℕ) (b : ℕ) → (b == 10) ≡ feed → StatusValue (ended_lines before)
    → (feed ≡ true → line_item (ended_lines before) (last_line before) ≡ GoesOn) → StatusValue (ended_lines (before ++ b ∷ []))
judged_by true before b e j line =
    let lines : ended_lines (before ++ b ∷ []) ≡ ended_lines before ++ last_line before ∷ [] = ap (λ (x : ℕ). ended_lines (before ++ x ∷ [])) (eqb-true b 10 e)
    ∙ ended_lines-lf before in
    subst StatusValue (sym lines) (judged-push (ended_lines before) (last_line before) j (line refl))
judged_by false before b e j line = subst StatusValue (sym (ended_lines-other before b e)) j

judged-byte : (before : List ℕ) (b : ℕ) → StatusValue (ended_lines before) → pam_item before b ≡ GoesOn → StatusValue (ended_lines (before ++ b ∷ []))
judged-byte before b j e =
    judged_by (b == 10) before b refl j (goes_on_by (nat_le pam_limit (length before)) (b == 10) (line_item (ended_lines before) (last_line before))
    (sym (pam_item_is before b) ∙ e))

-- the bytes of a header that was read, but for the last LF
record PamBody (piece : List ℕ) : Type 0 where
  pub body : List ℕ
  pub judged : StatusValue (ended_lines body)
  pub ends : line_kind (last_line body) ≡ End
  pub short : length body < pam_limit
  pub piece_is : piece ≡ body ++ 10 ∷ []

body_by : (scan_status : ScanStatus) (before : List ℕ) (b : ℕ) (text : List ℕ) (found : List ℕ × List ℕ) → pam_item before b ≡ scan_status
    → StatusValue (ended_lines before) → FoundBy pam_item header_end before b text found scan_status
    → (StatusValue (ended_lines (before ++ b ∷ [])) → piece_from pam_item header_end (before ++ b ∷ []) text ≡ Ok found → PamBody found.0) → PamBody found.0
body_by (Fails fault) before b text found e j h more = absurd h
body_by EndsWith before b text found e j h more =
    let parts = ends_with_by (nat_le pam_limit (length before)) (b == 10) (line_item (ended_lines before) (last_line before))
    (sym (pam_item_is before b) ∙ e) in
    record {
      body = before;
      judged = j;
      ends = line_ends (ended_lines before) (last_line before) parts.2;
      short = leb-false pam_limit (length before) parts.0;
      piece_is = ap (λ (f : List ℕ × List ℕ). f.0) (sym h) ∙ ap (λ (x : ℕ). before ++ x ∷ []) (eqb-true b 10 parts.1);
    }
body_by EndsBefore before b text found e j h more =
    absurd (line_ends_with (ended_lines before) (last_line before)
    (ends_before_by (nat_le pam_limit (length before)) (b == 10) (line_item (ended_lines before) (last_line before)) (sym (pam_item_is before b) ∙ e)))
body_by GoesOn before b text found e j h more = more (judged-byte before b j e) h

body_is_read : (text before : List ℕ) {found : List ℕ × List ℕ} → StatusValue (ended_lines before) → piece_from pam_item header_end before text ≡ Ok found
    → PamBody found.0
body_is_read [] before j e = let none = (found_at_end pam_item header_end before e).0 in absurd cc
body_is_read (b ∷ text) before {found} j e =
    body_by (pam_item before b) before b text found refl j (found_from pam_item header_end before b text e)
    (λ on rest. body_is_read text (before ++ b ∷ []) on rest)

no_lines : ended_lines [] ≡ []
unfolding ended_lines
no_lines = refl

line_feed_by : (feed : Bool) (b : ℕ) (text rest : List ℕ) → (b == 10) ≡ feed → (if feed then Ok text else Err BadPamLine) ≡ done rest → b ∷ text ≡ 10 ∷ rest
line_feed_by true b text rest h e = let first = eqb-true b 10 h in cc
line_feed_by false b text rest h e = absurd cc

line_feed_is : (text : List ℕ) {rest : List ℕ} → line_feed_item text ≡ Ok rest → text ≡ 10 ∷ rest
unfolding line_feed_item
line_feed_is [] e = absurd cc
line_feed_is (b ∷ text) {rest} e = line_feed_by (b == 10) b text rest refl e

-- the body and the head of a header that was read
record PamRead (text : List ℕ) (head : HeadValue) (rest : List ℕ) : Type 0 where
  pub body : List ℕ
  pub ends : line_kind (last_line body) ≡ End
  pub short : length body < pam_limit
  pub judged : StatusValue (ended_lines body)
  pub whole : text ≡ 10 ∷ ((body ++ 10 ∷ []) ++ rest)
  pub made : MadeOf (ended_lines body) head

-- the lines of a piece make what those of its body make
lines_of_piece : {piece : List ℕ} (body : List ℕ) → piece ≡ body ++ 10 ∷ [] → line_kind (last_line body) ≡ End
    → lines_item (ended_lines piece) ≡ lines_item (ended_lines body)
lines_of_piece body e ends = ap (λ (t : List ℕ). lines_item (ended_lines t)) e ∙ ap lines_item (ended_lines-lf body)
    ∙ lines_item-end (ended_lines body) (last_line body) ends

whole_after : {text : List ℕ} (found : List ℕ × List ℕ) (body : List ℕ) {rest : List ℕ} → text ≡ found.0 ++ found.1 → found.0 ≡ body ++ 10 ∷ []
    → found.1 ≡ rest → text ≡ (body ++ 10 ∷ []) ++ rest
whole_after found body whole piece back = whole ∙ ap (λ (t : List ℕ). t ++ found.1) piece ∙ ap (λ (t : List ℕ). (body ++ 10 ∷ []) ++ t) back

-- a step has one head, and one rest
both_are : (made head : HeadValue) (after rest : List ℕ) → done {A = HeadValue × List ℕ} (made, after) ≡ Ok (head, rest) → (made ≡ head) × (after ≡ rest)
both_are made head after rest e =
    let parts : (made, after) ≡ (head, rest) = ok_is (made, after) (head, rest) e in
    (ap (λ (p : HeadValue × List ℕ). p.0) parts, ap (λ (p : HeadValue × List ℕ). p.1) parts)

pam_parts : {text : List ℕ} {head : HeadValue} {rest : List ℕ} → pam_head_at text ≡ Ok (head, rest) → PamRead text head rest
unfolding pam_head_at
pam_parts {text} {head} {rest} e =
    let feed = bind_ok (line_feed_item text) (λ after. piece_from pam_item header_end [] after >>= λ piece. lines_item (ended_lines piece.0) >>= λ made.
    Ok (made, piece.1)) e in
    let piece = bind_ok (piece_from pam_item header_end [] feed.0) (λ found. lines_item (ended_lines found.0) >>= λ made. Ok (made, found.1)) feed.2 in
    let made = bind_ok (lines_item (ended_lines piece.0.0)) (λ found. Ok (found, piece.0.1)) piece.2 in
    let parts = both_are made.0 head piece.0.1 rest made.2 in
    let read = body_is_read feed.0 [] (subst StatusValue (sym no_lines) judged_none) piece.1 in
    let lines : lines_item (ended_lines piece.0.0) ≡ lines_item (ended_lines read.body) = lines_of_piece read.body read.piece_is read.ends in
    let whole : feed.0 ≡ (read.body ++ 10 ∷ []) ++ rest =
    whole_after piece.0 read.body (found_is_whole pam_item header_end feed.0 [] piece.1) read.piece_is parts.1 in
    let found : MadeOf (ended_lines read.body) made.0 = lines_make_head read.judged (ended_lines-are read.body) (sym lines ∙ made.1) in
    record {
      body = read.body;
      ends = read.ends;
      short = read.short;
      judged = read.judged;
      whole = line_feed_is text feed.1 ∙ ap (λ (t : List ℕ). 10 ∷ t) whole;
      made = subst (MadeOf (ended_lines read.body)) parts.0 found;
    }

pam_lines : (lines : List (List ℕ)) → AllByRecursion IsOneLine lines → AllByRecursion MayStand lines → AllByRecursion IsPamLine lines
pam_lines [] one say = tt
pam_lines (line ∷ lines) one say = (record { one_line = one.0; says = say.0 }, pam_lines lines one.1 say.1)

-- a header of a short body is short
short_header : (body : List ℕ) → length body < pam_limit → length (80 ∷ 55 ∷ 10 ∷ (body ++ 10 ∷ [])) ≤ MAX_HEADER_LENGTH
short_header body h = omega (arith, length-append body (10 ∷ []))

-- a header that is read is spelled
pub pam_head_is_spelled : (text rest : List ℕ) {format : Format} (head : HeadValue) → format_of 55 ≡ Some format → pam_head_at text ≡ Ok (head, rest)
    → (header : List ℕ) × (80 ∷ 55 ∷ text ≡ header ++ rest) × SpellsPamHeader header format head
pam_head_is_spelled text rest head names e =
    let read = pam_parts e in
    let lines : List (List ℕ) = ended_lines read.body in
    let last : List ℕ = last_line read.body in
    let body : read.body ++ 10 ∷ [] ≡ with_feeds lines ++ (last ++ 10 ∷ []) = ap (λ (t : List ℕ). t ++ 10 ∷ []) (text_of_lines read.body)
    ∙ append_assoc (with_feeds lines) last (10 ∷ []) in (
      80 ∷ 55 ∷ 10 ∷ (read.body ++ 10 ∷ []),
      ap (λ (t : List ℕ). 80 ∷ 55 ∷ t) read.whole,
      record {
        lines = lines;
        last = last;
        whole = ap (λ (t : List ℕ). 80 ∷ 55 ∷ 10 ∷ t) body;
        short = short_header read.body read.short;
        format_is = names;
        lines_are = pam_lines lines (ended_lines-are read.body) read.judged.say;
        last_one_line = last_line-is read.body;
        last_ends = read.ends;
        width = read.made.width;
        height = read.made.height;
        depth = read.made.depth;
        maxval = read.made.maxval;
        tuple_type = read.made.tuple_type;
        kind = read.made.kind;
        sound = read.made.sound;
        rows = read.made.rows;
      },
    )

-- ---- what is spelled is read

-- three choices by the same
choices : (P : List (List ℕ) → List (List ℕ) → List ℕ → Type 0) {a b c d : List (List ℕ)} {e f : List ℕ} (t : Bool) → P a c e → P b d f
    → P (if t then a else b) (if t then c else d) (if t then e else f)
choices P true p q = p
choices P false p q = q

-- the lines before a LF, the line that it ends, and those after
ended_after-feed : (line prefix others : List ℕ) → ended_after line (prefix ++ 10 ∷ others) ≡ ended_after line prefix ++ last_after line prefix ∷ ended_after []
    others
unfolding ended_after last_after
ended_after-feed line [] others = refl
ended_after-feed line (c ∷ prefix) others =
    choices (λ (l m : List (List ℕ)) (n : List ℕ). l ≡ m ++ n ∷ ended_after [] others) (c == 10)
    (ap (λ (l : List (List ℕ)). line ∷ l) (ended_after-feed [] prefix others)) (ended_after-feed (line ++ c ∷ []) prefix others)

ended_lines-feed : (prefix others : List ℕ) → ended_lines (prefix ++ 10 ∷ others) ≡ ended_lines prefix ++ last_line prefix ∷ ended_lines others
ended_lines-feed prefix others = rw (ended_lines_are (prefix ++ 10 ∷ others), ended_lines_are prefix, last_line_is prefix, ended_lines_are others)
    (ended_after-feed [] prefix others)

-- a byte of such a body goes on
byte_goes_on : (feed : Bool) (prefix : List ℕ) (b : ℕ) (others : List ℕ) → (b == 10) ≡ feed → StatusValue (ended_lines (prefix ++ b ∷ others))
    → length (prefix ++ b ∷ others) < pam_limit → pam_item prefix b ≡ GoesOn
byte_goes_on true prefix b others e j short =
    let long : nat_le pam_limit (length prefix) ≡ false = lt-leb pam_limit (length prefix) (omega (arith, length-append prefix (b ∷ others))) in
    let lines : ended_lines (prefix ++ b ∷ others) ≡ ended_lines prefix ++ last_line prefix ∷ ended_lines others =
    ap (λ (x : ℕ). ended_lines (prefix ++ x ∷ others)) (eqb-true b 10 e) ∙ ended_lines-feed prefix others in
    pam_item_is prefix b ∙ rw (long, e) (line_goes_on (ended_lines prefix) (last_line prefix) (ended_lines others) (subst StatusValue lines j))
byte_goes_on false prefix b others e j short =
    let long : nat_le pam_limit (length prefix) ≡ false = lt-leb pam_limit (length prefix) (omega (arith, length-append prefix (b ∷ others))) in
    pam_item_is prefix b ∙ rw (long, e) refl

-- the LF after the line ENDHDR ends the piece
last_feed_ends : (body : List ℕ) → length body < pam_limit → line_kind (last_line body) ≡ End → pam_item body 10 ≡ EndsWith
last_feed_ends body short ends =
    let long : nat_le pam_limit (length body) ≡ false = lt-leb pam_limit (length body) short in
    pam_item_is body 10 ∙ rw long (line_is_judged (ended_lines body) (last_line body) ends)

-- the body and its LF are read as the header's piece
body_is_piece : (body rest : List ℕ) → StatusValue (ended_lines body) → length body < pam_limit → line_kind (last_line body) ≡ End
    → piece_from pam_item header_end [] (body ++ 10 ∷ rest) ≡ Ok (body ++ 10 ∷ [], rest)
body_is_piece body rest j short ends =
    goes_on_through pam_item header_end [] body (10 ∷ rest) refl
    (λ prefix b others e. byte_goes_on (b == 10) prefix b others refl (subst (λ (t : List ℕ). StatusValue (ended_lines t)) (sym e) j)
    (subst (λ (t : List ℕ). length t < pam_limit) (sym e) short))
    ∙ piece_step pam_item header_end body 10 rest (last_feed_ends body short ends)

-- ---- the lines of a header

-- one line goes on
ended_after-line : (line before text : List ℕ) → IsOneLine line → ended_after before (line ++ text) ≡ ended_after (before ++ line) text
unfolding ended_after
ended_after-line [] before text one = ap (λ (t : List ℕ). ended_after t text) (sym (append-nil before))
ended_after-line (c ∷ line) before text one =
    ap (λ (t : Bool). if t then before ∷ ended_after [] (line ++ text) else ended_after (before ++ c ∷ []) (line ++ text))
    (not-true (c == 10) (All-head (λ x. not (x == 10) ≡ true) c line one))
    ∙ ended_after-line line (before ++ c ∷ []) text (All-tail (λ x. not (x == 10) ≡ true) c line one)
    ∙ ap (λ (t : List ℕ). ended_after t text) (append_assoc before (c ∷ []) line)

last_after-line : (line before text : List ℕ) → IsOneLine line → last_after before (line ++ text) ≡ last_after (before ++ line) text
unfolding last_after
last_after-line [] before text one = ap (λ (t : List ℕ). last_after t text) (sym (append-nil before))
last_after-line (c ∷ line) before text one =
    ap (λ (t : Bool). if t then last_after [] (line ++ text) else last_after (before ++ c ∷ []) (line ++ text))
    (not-true (c == 10) (All-head (λ x. not (x == 10) ≡ true) c line one))
    ∙ last_after-line line (before ++ c ∷ []) text (All-tail (λ x. not (x == 10) ≡ true) c line one)
    ∙ ap (λ (t : List ℕ). last_after t text) (append_assoc before (c ∷ []) line)

-- lines and their LFs, and a last line without one
lines_of_text : (lines : List (List ℕ)) (last : List ℕ) → AllByRecursion IsPamLine lines → IsOneLine last → (ended_lines (with_feeds lines ++ last) ≡ lines)
    × (last_line (with_feeds lines ++ last) ≡ last)
unfolding ended_after last_after
lines_of_text [] last are one = (
  ended_lines_are last ∙ ap (ended_after []) (sym (append-nil last)) ∙ ended_after-line last [] [] one,
  last_line_is last ∙ ap (last_after []) (sym (append-nil last)) ∙ last_after-line last [] [] one,
)
lines_of_text (line ∷ lines) last are one =
    let others = lines_of_text lines last are.1 one in
    let text : with_feeds (line ∷ lines) ++ last ≡ line ++ 10 ∷ (with_feeds lines ++ last) = append_assoc (line ++ 10 ∷ []) (with_feeds lines) last
    ∙ append_assoc line (10 ∷ []) (with_feeds lines ++ last) in (
      ended_lines_are (with_feeds (line ∷ lines) ++ last) ∙ ap (ended_after []) text
          ∙ ended_after-line line [] (10 ∷ (with_feeds lines ++ last)) are.0.one_line
          ∙ ap (λ (l : List (List ℕ)). line ∷ l) (sym (ended_lines_are (with_feeds lines ++ last)) ∙ others.0),
      last_line_is (with_feeds (line ∷ lines) ++ last) ∙ ap (last_after []) text
          ∙ last_after-line line [] (10 ∷ (with_feeds lines ++ last)) are.0.one_line
          ∙ sym (last_line_is (with_feeds lines ++ last)) ∙ others.1,
    )

may_stand : (lines : List (List ℕ)) → AllByRecursion IsPamLine lines → AllByRecursion MayStand lines
may_stand [] are = tt
may_stand (line ∷ lines) are = (are.0.says, may_stand lines are.1)

one_of : {values : List ℕ} {n : ℕ} → values ≡ n ∷ [] → length values ≤ 1
one_of e = let lengths = ap (λ (l : List ℕ). length l) e in omega arith

single_values : {text : List ℕ} {format : Format} {head : HeadValue} (s : SpellsPamHeader text format head) (field : Field)
    → length (field_values field s.lines) ≤ 1
single_values s Width = one_of s.width
single_values s Height = one_of s.height
single_values s Depth = one_of s.depth
single_values s Maxval = one_of s.maxval

-- the lines of a header go on
judged_lines : {text : List ℕ} {format : Format} {head : HeadValue} (s : SpellsPamHeader text format head) → StatusValue s.lines
judged_lines {head} s =
    let suits : IsTupleType head.tuple_type = subst (λ (k : Kind). Suits k head.shape.depth head.shape.maxval head.tuple_type) s.kind s.sound.suits in
    let lengths : length (tuple_type_in s.lines) ≡ length head.tuple_type = ap (λ (l : List ℕ). length l) s.tuple_type in
    let short = suits.short in
    record { say = may_stand s.lines s.lines_are; single = single_values s; short = omega arith }

-- a header within the limit has a body within it
short_body : {text : List ℕ} (body : List ℕ) → text ≡ 80 ∷ 55 ∷ 10 ∷ (body ++ 10 ∷ []) → length text ≤ MAX_HEADER_LENGTH → length body < pam_limit
short_body {text} body whole short =
    let lengths : length text ≡ length (body ++ 10 ∷ []) + 3 = ap (λ (t : List ℕ). length t) whole ∙ omega arith in
    omega (arith, length-append body (10 ∷ []))

-- the head is read of the body, its LF and what follows
head_is_read : (body rest : List ℕ) {lines : List (List ℕ)} {last : List ℕ} {head : HeadValue} → ended_lines body ≡ lines → last_line body ≡ last
    → StatusValue lines → line_kind last ≡ End → length body < pam_limit → MadeOf lines head → pam_head_at (10 ∷ (body ++ 10 ∷ rest)) ≡ Ok (head, rest)
unfolding pam_head_at line_feed_item
head_is_read body rest {head} e l judged ends short made =
    let piece = body_is_piece body rest (subst StatusValue (sym e) judged) short (ap line_kind l ∙ ends) in
    let found : lines_item (ended_lines (body ++ 10 ∷ [])) ≡ Ok head =
    lines_of_piece body refl (ap line_kind l ∙ ends) ∙ ap lines_item e ∙ made_is_found made in
    rw (piece, found) refl

-- a header that is spelled is read
pub spelled_pam_is_head : {header : List ℕ} (rest : List ℕ) {format : Format} {head : HeadValue} → SpellsPamHeader header format head
    → (text : List ℕ) × (header ++ rest ≡ 80 ∷ 55 ∷ text) × (pam_head_at text ≡ Ok (head, rest))
spelled_pam_is_head {header} rest {head} s =
    let body : List ℕ = with_feeds s.lines ++ s.last in
    let lines = lines_of_text s.lines s.last s.lines_are s.last_one_line in
    let whole : header ≡ 80 ∷ 55 ∷ 10 ∷ (body ++ 10 ∷ []) = s.whole
    ∙ ap (λ (t : List ℕ). 80 ∷ 55 ∷ 10 ∷ t) (sym (append_assoc (with_feeds s.lines) s.last (10 ∷ []))) in
    let made : MadeOf s.lines head =
    record {
      width = s.width;
      height = s.height;
      depth = s.depth;
      maxval = s.maxval;
      tuple_type = s.tuple_type;
      kind = s.kind;
      sound = s.sound;
      rows = s.rows;
    } in (
      10 ∷ (body ++ 10 ∷ rest),
      ap (λ (t : List ℕ). t ++ rest) whole ∙ ap (λ (t : List ℕ). 80 ∷ 55 ∷ 10 ∷ t) (append_assoc body (10 ∷ []) rest),
      head_is_read body rest lines.0 lines.1 (judged_lines s) s.last_ends (short_body body whole s.short) made,
    )
